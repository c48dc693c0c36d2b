-- The planes before x are counted; over all points the counts are the totals.
use Rattle.std.proofs.Common.{◌≡◌, ◌+◌, ◌≤◌}
use Rattle.job.specs.Job.{seen}
use Rattle.measure_intake.specs.Intake.{solid}
use Rattle.measure_cells.specs.Points.{planes_to}
use Rattle.measure_shown.proofs.count_shown.Given as goal

abbrev pub invariant-loop-x : goal.invariant-loop-x
invariant-loop-x l = (l.x ≤ l.list.job.field + 1) × (l.sums ≡ planes_to l.list.job.field (solid (seen l.list.job)) l.x)
