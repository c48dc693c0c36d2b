-- The points passed are counted, and what is below the next point is known.
use mathlib.Core.Path.{◌≡◌}
use Prim.Native.Nat.{◌+◌, ◌≤◌}
use Rattle.grid_cover.specs.Cover.{run_covers}
use Rattle.measure_tallies.specs.Tallies.{plus}
use Rattle.measure_cells.specs.Points.{line_from, quad}
use Rattle.measure_cells.proofs.points.count_points.Given as goal

abbrev pub invariant-loop-i : goal.invariant-loop-i
invariant-loop-i l = (l.low ≡ quad (run_covers l.edge l.coords l.run) l.x l.y (l.from + l.i)) × (l.low ≤ 85) × (l.sums ≡ plus l.initial.sums (line_from (run_covers l.edge l.coords l.run) l.x l.y l.from l.i))
