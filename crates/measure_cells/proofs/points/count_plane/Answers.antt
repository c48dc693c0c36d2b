use mathlib.Core.Path.{◌≡◌}
use Prim.Native.Nat.{ℕ, ◌+◌}
use native.Mathlib.Omega.{arith}
use Rattle.job.specs.Job.{seen}
use Rattle.measure_intake.specs.Intake.{solid}
use Rattle.measure_cells.specs.Points.{line_to}
use Rattle.measure_cells.proofs.SumLaws.{sums_none, sums-turn, plane-low}
use Rattle.measure_cells.proofs.points.count_plane.Goals as goal

pub loop-y-init : goal.loop-y-init
loop-y-init c = sums_none (λ (y : ℕ). line_to (solid (seen c.args.list.job)) (c.args.list.job.field + 1) c.args.x y) c.args.t

pub count_line-sums-requires : goal.count_line-sums-requires
count_line-sums-requires c = let turn = c.loop-y in
    let most = c.args.list.holds.valid.field_most in
    let low = plane-low (solid (seen c.args.list.job)) (c.args.list.job.field + 1) turn.y c.args.x (omega (arith, most)) (omega (arith, most)) c.args.t c.requires.at_most turn.invariant in
    record { x_le_field = c.requires.x_le_field; y_le_field = omega arith; few_len = omega arith; at_most = low }

pub loop-y-preserved : goal.loop-y-preserved
loop-y-preserved c = sums-turn (λ (y : ℕ). line_to (solid (seen c.args.list.job)) (c.args.list.job.field + 1) c.args.x y) c.args.t c.loop-y.y c.loop-y.invariant c.count_line-sums.ensures

-- the last line
pub returns-2 : goal.returns-2
returns-2 c =
    let e : c.loop-y.y ≡ c.args.list.job.field = omega arith in
    rw e at (sums-turn (λ (y : ℕ). line_to (solid (seen c.args.list.job)) (c.args.list.job.field + 1) c.args.x y) c.args.t c.loop-y.y c.loop-y.invariant c.count_line-sums.ensures)
