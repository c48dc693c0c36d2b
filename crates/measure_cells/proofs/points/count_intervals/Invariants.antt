-- The points of the intervals passed are counted.
use mathlib.Core.Path.{◌≡◌}
use Prim.Native.Nat.{◌*◌, ◌/◌}
use Rattle.job.specs.Job.{seen}
use Rattle.measure_intake.specs.Intake.{solid}
use Rattle.measure_tallies.specs.Tallies.{plus}
use Rattle.measure_cells.specs.Points.{line_to}
use Rattle.measure_cells.proofs.points.count_intervals.Given as goal

abbrev pub invariant-loop-gz : goal.invariant-loop-gz
invariant-loop-gz l = l.sums ≡ plus l.initial.sums (line_to (solid (seen l.list.job)) (l.gz * (l.list.job.field / l.list.job.grid)) l.x l.y)
