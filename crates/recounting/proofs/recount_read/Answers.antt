-- Each answer of reading has its answer of measuring.
use mathlib.Core.Path.{subst}
use Rattle.std.proofs.lemmas.Result.{err_from_is_err_and}
use Rattle.shotfile_reader.specs.Calls.{ReadAnswer}
use Rattle.quoting_text.specs.Answered.{ShotsThere}
use Rattle.quoting_text.proofs.TextLaws.{answer-refused, answer-measured}
use Rattle.recounting.proofs.recount_read.Goals as goal

pub returns-in_err-read : goal.returns-in_err-read
returns-in_err-read c = let p = err_from_is_err_and c.from_residual.result c.from_residual.ensures.1 in
    rw (p.1, p.2) (answer-refused c.args.coords.now _ c.in_err-read.was)

pub job-requires : goal.job-requires
job-requires c = subst (λ (a : ReadAnswer). ShotsThere a c.args.coords.now) c.in_ok-read.was c.requires

pub returns : goal.returns
returns c = answer-measured c.args.coords.now c.in_ok-read.was c.job.ensures c.recount.ensures
