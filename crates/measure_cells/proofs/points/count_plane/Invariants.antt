-- The lines passed are counted.
use mathlib.Core.Path.{◌≡◌}
use Prim.Native.Nat.{◌+◌}
use Rattle.job.specs.Job.{seen}
use Rattle.measure_intake.specs.Intake.{solid}
use Rattle.measure_tallies.specs.Tallies.{plus}
use Rattle.measure_cells.specs.Points.{plane_to}
use Rattle.measure_cells.proofs.points.count_plane.Given as goal

abbrev pub invariant-loop-y : goal.invariant-loop-y
invariant-loop-y l = l.sums ≡ plus l.initial.sums (plane_to (solid (seen l.list.job)) (l.list.job.field + 1) l.y l.x)
