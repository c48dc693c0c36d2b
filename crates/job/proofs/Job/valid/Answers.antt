-- A list that the checks accept is valid.
use mathlib.Core.Path.{sym}
use Rattle.job.proofs.Conditions.{accepted-valid}
use Rattle.job.proofs.Job.valid.Goals as goal

pub invariant_of-result : goal.invariant_of-result
invariant_of-result c = record { valid = (accepted-valid _).0 (sym c.in_ok-check.ensures.answer) }
