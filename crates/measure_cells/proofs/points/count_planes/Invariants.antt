-- The planes passed are counted.
use mathlib.Core.Path.{◌≡◌}
use Rattle.job.specs.Job.{seen}
use Rattle.measure_intake.specs.Intake.{solid}
use Rattle.measure_cells.specs.Points.{planes_to}
use Rattle.measure_cells.proofs.points.count_planes.Given as goal

abbrev pub invariant-loop-x : goal.invariant-loop-x
invariant-loop-x l = l.sums ≡ planes_to l.list.job.field (solid (seen l.list.job)) l.x
