-- Counting point by point what each counts (`measure_tallies`). Over all points of a field every cell, square and edge is met once: the sums
-- are the totals of docs/SCOPE.md (proofs/FieldLaws).
use Rattle.std.specs.Prelude.{ℕ, zero, suc, ◌+◌, ◌*◌, ◌≤◌, ◌<◌}
use Rattle.ground.specs.Numbers.{bit}
use Rattle.lattice.specs.Cells.{Cells, below}
use Rattle.lattice.specs.Pattern.{around}
use Rattle.lattice_sums.specs.declared.sums.Totals.{Totals}
use Rattle.measure_tallies.specs.Tallies.{at_pattern, nothing, plus}

-- the sum over 0, 1, .. n - 1
unfoldable pub sum_to : ℕ → (ℕ → Totals) → Totals
sum_to zero f = nothing
sum_to (suc n) f = plus (sum_to n f) (f n)

-- the first n points of a line, the first m lines of a plane, the first l planes
abbrev pub line_to : Cells → ℕ → ℕ → ℕ → Totals
line_to s n x y = sum_to n λ z. at_pattern (around s x y z)

abbrev pub plane_to : Cells → ℕ → ℕ → ℕ → Totals
plane_to s n m x = sum_to m λ y. line_to s n x y

abbrev pub field_to : Cells → ℕ → ℕ → ℕ → Totals
field_to s n m l = sum_to l λ x. plane_to s n m x

-- n points of a line, from one on
abbrev pub line_from : Cells → ℕ → ℕ → ℕ → ℕ → Totals
line_from s x y from n = sum_to n λ i. at_pattern (around s x y (from + i))

-- the four cells about the line at (x, y) that end at z, as bits 0, 2, 4 and 6 of a byte
abbrev pub quad : Cells → ℕ → ℕ → ℕ → ℕ
quad s x y z = bit (below s x y z) + 4 * bit (below s x (suc y) z) + 16 * bit (below s (suc x) y z) + 64 * bit (below s (suc x) (suc y) z)

-- interval g of G intervals of width s holds the lattice point x, ends included
pub record InInterval (s G g x : ℕ) : Type 0 where
  pub below : g < G
  pub low : g * s ≤ x
  pub high : x ≤ (g + 1) * s

-- the points from one on are in interval g of G intervals of width s, ends included
pub record PointsInInterval (s G g from points : ℕ) : Type 0 where
  pub below : g < G
  pub low : g * s ≤ from
  pub high : from + points ≤ (g + 1) * s + 1

-- the planes of points of a field before x
abbrev pub planes_to : ℕ → Cells → ℕ → Totals
planes_to F s x = field_to s (F + 1) (F + 1) x

-- the most that a figure may be before points of a line are added, before lines of a plane, and before planes of a field: 2⁶¹, 2⁶⁰ and 2⁵⁹,
-- each half of the one before, since what is added is less than the half that is left
abbrev pub before_points : ℕ
before_points = 2305843009213693952

abbrev pub before_line : ℕ
before_line = 1152921504606846976

abbrev pub before_plane : ℕ
before_plane = 576460752303423488
