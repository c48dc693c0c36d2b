-- Each way out of `check_shots` is one law of `Answers`. Assumes nothing.
use native.Mathlib.Omega.{arith}
use Rattle.job.proofs.Answers.{leaves_field, none-leaves}
use Rattle.job.proofs.Job.check_shots.Goals as goal

pub returns-then-shot-count : goal.returns-then-shot-count
returns-then-shot-count c = leaves_field _ _ _ c.first_leaving-shot.ensures (omega arith)

pub returns : goal.returns
returns c = none-leaves _ _ _ c.first_leaving-shot.ensures (omega arith)
