-- The grid cells before that of the loop are credited.
use mathlib.Core.Path.{◌≡◌}
use Prim.Native.Nat.{◌≤◌, ◌-◌}
use lib.ListN.{replicate}
use Rattle.job.specs.Job.{shot_count, seen}
use Rattle.crediting_carving.specs.Blocks.{added}
use Rattle.crediting.proofs.FieldLaws.{credits_to}
use Rattle.crediting.proofs.credit_shots.Given as goal

abbrev pub invariant-loop-cell : goal.invariant-loop-cell
invariant-loop-cell l = (l.cell ≤ l.cell-end) × (l.credits ≡ added (replicate (shot_count l.list.job.coords.now) 0) (credits_to (seen l.list.job) l.cell))

abbrev pub decreases-loop-cell : goal.decreases-loop-cell
decreases-loop-cell l = l.cell-end - l.cell
