-- What was read is written.
use mathlib.Core.Path.{refl}
use Rattle.std.proofs.lemmas.Result.{err_from_is_err_and}
use Rattle.acceptance.proofs.Condition2.{write-back, unwritten}
use Rattle.acceptance.proofs.condition_2.read_and_write.Goals as goal

pub returns-in_err-stored : goal.returns-in_err-stored
returns-in_err-stored c = let p = err_from_is_err_and c.from_residual.result c.from_residual.ensures.1 in
    rw (p.1, p.2) (unwritten c.in_err-stored.ensures refl)

pub returns : goal.returns
returns c = write-back c.in_ok-stored.ensures (λ i. (c.type_inv.bytes i).fits) refl c.job.ensures c.write.ensures
