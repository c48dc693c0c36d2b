use Prim.Native.Nat.{ℕ, ◌+◌}
use native.Mathlib.Omega.{arith}
use Rattle.job.specs.Job.{seen}
use Rattle.measure_intake.specs.Intake.{solid}
use Rattle.measure_cells.specs.Points.{plane_to}
use Rattle.measure_cells.proofs.SumLaws.{whole-turn, field-low}
use Rattle.measure_cells.proofs.points.count_planes.Goals as goal

pub count_plane-sums-requires : goal.count_plane-sums-requires
count_plane-sums-requires c = record {
  x_le_field = omega (arith, c.requires.to_bound, c.loop-x-test.true);
  few_len = omega arith;
  at_most = field-low (solid (seen c.args.list.job)) (c.args.list.job.field + 1) (c.args.list.job.field + 1) c.loop-x.x (omega (arith, c.args.list.holds.valid.field_most)) (omega (arith, c.args.list.holds.valid.field_most))
      (omega (arith, c.args.list.holds.valid.field_most, c.requires.to_bound)) c.loop-x.invariant;
}

pub loop-x-preserved : goal.loop-x-preserved
loop-x-preserved c = whole-turn (λ (x : ℕ). plane_to (solid (seen c.args.list.job)) (c.args.list.job.field + 1) (c.args.list.job.field + 1) x) c.loop-x.x c.loop-x.invariant c.count_plane-sums.ensures
