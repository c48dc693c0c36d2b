-- All intervals, and then the point of the far side.
use mathlib.Core.Path.{◌∙◌}
use Prim.Native.Nat.{ℕ}
use native.Mathlib.Omega.{arith}
use Rattle.lattice.specs.Pattern.{around}
use Rattle.job.specs.Job.{seen}
use Rattle.measure_intake.specs.Intake.{solid}
use Rattle.measure_cells.proofs.SumLaws.{points-low}
use Rattle.measure_cells.specs.Points.{before_points, before_line}
use Rattle.measure_cells.proofs.PointLaws.{last-interval-points, line-last}
use Rattle.measure_cells.proofs.points.count_line.Goals as goal

pub count_interval-requires : goal.count_interval-requires
count_interval-requires c = record {
  x_le_field = c.requires.x_le_field;
  y_le_field = c.requires.y_le_field;
  points_in_interval = last-interval-points c.args.list.holds.valid;
  few_len = c.count_intervals-sums.auto.few ∙ c.requires.few_len;
  at_most = points-low (λ (z : ℕ). around (solid (seen c.args.list.job)) c.args.x c.args.y z) c.args.list.job.field (omega (arith, c.args.list.holds.valid.field_most)) before_line before_points
      (omega arith) c.args.t c.requires.at_most c.count_intervals-sums.ensures;
}

pub returns : goal.returns
returns c = line-last (solid (seen c.args.list.job)) c.args.x c.args.y c.args.t c.args.list.job.field c.count_intervals-sums.ensures c.count_interval.ensures
