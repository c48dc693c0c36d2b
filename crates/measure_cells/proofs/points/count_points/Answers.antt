use Prim.Native.Nat.{ℕ, ◌+◌}
use native.Mathlib.Omega.{arith}
use Rattle.lattice.specs.Pattern.{around}
use Rattle.grid_cover.specs.Cover.{run_covers}
use Rattle.measure_tallies.specs.Tallies.{at_pattern, before_point}
use Rattle.measure_cells.specs.Points.{before_points}
use Rattle.measure_cells.proofs.SumLaws.{sums_none, points-low}
use Rattle.measure_cells.proofs.PointLaws.{points-start, points-next, points-turn}
use Rattle.measure_cells.proofs.points.count_points.Goals as goal

pub loop-i-init : goal.loop-i-init
loop-i-init c = (points-start (run_covers c.args.edge c.args.coords.now c.args.run.now) c.args.x c.args.y c.args.from c.quad_ends-low.ensures.0, c.quad_ends-low.ensures.1, sums_none (λ (i : ℕ). at_pattern (around (run_covers c.args.edge c.args.coords.now c.args.run.now) c.args.x c.args.y (c.args.from + i))) c.args.t)

pub tally-sums-requires : goal.tally-sums-requires
tally-sums-requires c = points-low (λ (i : ℕ). around (run_covers c.args.edge c.args.coords.now c.args.run.now) c.args.x c.args.y (c.args.from + i)) c.loop-i.i (omega (arith, c.requires.points_bound)) before_points before_point (omega arith) c.args.t c.requires.at_most c.loop-i.invariant.2

pub loop-i-preserved : goal.loop-i-preserved
loop-i-preserved c = (points-next (run_covers c.args.edge c.args.coords.now c.args.run.now) c.args.x c.args.y c.args.from c.loop-i.i c.quad_ends-high.ensures.0, c.quad_ends-high.ensures.1, points-turn (run_covers c.args.edge c.args.coords.now c.args.run.now) c.args.x c.args.y c.args.from c.loop-i.i c.loop-i.invariant.0 c.quad_ends-high.ensures.0 c.args.t c.loop-i.sums c.loop-i.invariant.2 c.tally-sums.ensures)
