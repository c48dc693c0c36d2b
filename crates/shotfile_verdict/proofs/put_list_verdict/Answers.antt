-- Nothing, or the line of the refusal.
use mathlib.Core.Path.{sym, ap, ◌∙◌}
use Rattle.buffer.proofs.WroteLaws.{wrote_as}
use Rattle.shotfile_verdict.specs.Verdicts.{list_verdict}
use Rattle.shotfile_verdict.proofs.VerdictLaws.{accepted-verdict}
use Rattle.shotfile_verdict.proofs.put_list_verdict.Goals as goal

pub returns-in-Ok : goal.returns-in-Ok
returns-in-Ok c = accepted-verdict c.args.out.now c.args.at (sym c.in-Ok.is ∙ c.check.ensures.answer) c.requires

pub returns-in-Err : goal.returns-in-Err
returns-in-Err c = wrote_as (ap list_verdict (sym c.in-Err.is ∙ c.check.ensures.answer)) c.put_refused.ensures
