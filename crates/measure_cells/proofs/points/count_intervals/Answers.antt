use Prim.Native.Nat.{ℕ, ◌*◌, ◌/◌}
use native.Mathlib.Omega.{arith}
use Rattle.lattice.specs.Pattern.{around}
use Rattle.job.specs.Job.{seen}
use Rattle.measure_intake.specs.Intake.{solid}
use Rattle.measure_cells.specs.Points.{before_points, before_line}
use Rattle.measure_cells.proofs.SumLaws.{points-low}
use Rattle.measure_cells.proofs.PointLaws.{interval-fits, interval-points, intervals-none, intervals-turn}
use Rattle.measure_cells.proofs.points.count_intervals.Goals as goal

pub loop-gz-init : goal.loop-gz-init
loop-gz-init c = intervals-none (solid (seen c.args.list.job)) c.args.x c.args.y c.args.t (c.args.list.job.field / c.args.list.job.grid)

pub count_interval-sums-requires : goal.count_interval-sums-requires
count_interval-sums-requires c = record {
  x_le_field = c.requires.x_le_field;
  y_le_field = c.requires.y_le_field;
  points_in_interval = interval-points c.args.list.holds.valid c.loop-gz.gz c.loop-gz-test.true;
  few_len = omega arith;
  at_most = points-low (λ (z : ℕ). around (solid (seen c.args.list.job)) c.args.x c.args.y z) (c.loop-gz.gz * (c.args.list.job.field / c.args.list.job.grid))
      (omega (arith, interval-fits c.args.list.holds.valid c.loop-gz.gz c.loop-gz-test.true)) before_line before_points (omega arith) c.args.t c.requires.at_most c.loop-gz.invariant;
}

pub loop-gz-preserved : goal.loop-gz-preserved
loop-gz-preserved c = intervals-turn (solid (seen c.args.list.job)) c.args.x c.args.y c.args.t c.loop-gz.gz (c.args.list.job.field / c.args.list.job.grid) c.loop-gz.invariant c.count_interval-sums.ensures
