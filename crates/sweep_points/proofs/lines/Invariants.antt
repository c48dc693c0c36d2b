-- Line after line; those passed over name no column, so they have no corner.
use mathlib.Core.Path.{◌≡◌}
use Prim.Native.Nat.{◌-◌, ◌≤◌}
use Rattle.ground.specs.Sums.{join}
use Rattle.sweep_tally.specs.Found.{state, found}
use Rattle.sweep_points.specs.Points.{line_at}
use Rattle.sweep_points.proofs.lines.Given as goal

abbrev pub invariant-loop-y : goal.invariant-loop-y
invariant-loop-y l = (l.y ≤ l.end) × (state l.s l.buf ≡ found (state l.initial.s l.initial.buf) (join l.y (line_at l.field l.x l.l l.u)))

abbrev pub decreases-loop-y : goal.decreases-loop-y
decreases-loop-y l = l.end - l.y
