-- `check` runs the tests of the settings and then those of the shots. Assumes nothing.
use Rattle.std.proofs.lemmas.Result.{err_from_is_err_and}
use Rattle.job.proofs.Answers.{settings-refused, settings-passed}
use Rattle.job.proofs.Job.check.Goals as goal

pub returns-in_err-check_settings : goal.returns-in_err-check_settings
returns-in_err-check_settings c = let p = err_from_is_err_and c.from_residual.result c.from_residual.ensures.1 in
    rw (p.1, p.2) (settings-refused _ c.in_err-check_settings.ensures.answer)

pub returns : goal.returns
returns c = settings-passed _ c.in_ok-check_settings.ensures.answer c.check_shots.ensures.answer
