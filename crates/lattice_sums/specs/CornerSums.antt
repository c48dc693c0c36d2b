-- The corner sums as they are taken, point after point, and the totals that they come to: docs/SCOPE.md, 'Corner points'.
use Rattle.std.specs.Prelude.{◌≡◌, List, ℕ, ◌+◌, ◌-◌, ◌*◌, ◌≤◌, ℤ, pos, nat_abs, ◌+ℤ◌, length}
use Rattle.lattice.specs.Cells.{Cells, field_points, volume, area, edge_length, inner_length}
use Rattle.lattice.specs.Figures.{Figure, Volume, Area, EdgeLength, InnerLength, term, largest_term}
use Rattle.lattice.specs.Listing.{Corner, corner_count, term_at, corner_sum}
use Rattle.lattice_sums.specs.declared.sums.CornerSums.{CornerSums}
use Rattle.lattice_sums.specs.declared.sums.Totals.{Totals}

-- the sum of a figure
abbrev pub sum_in : Figure → CornerSums → ℤ
sum_in Volume t = t.volume
sum_in Area t = t.area
sum_in EdgeLength t = t.edge
sum_in InnerLength t = t.inner

-- the value of a figure in the totals
abbrev pub value : Figure → Totals → ℤ
value Volume r = pos r.volume
value Area r = pos r.area
value EdgeLength r = pos r.edge
value InnerLength r = pos r.inner

-- sums by figure, and a corner count
abbrev pub sums_by : (Figure → ℤ) → ℕ → CornerSums
sums_by g n = record { volume = g Volume; area = g Area; edge = g EdgeLength; inner = g InnerLength; corners = n }

-- the corner sums of a list of corners
unfoldable pub sums_of : List Corner → CornerSums
sums_of vs = sums_by (λ f. corner_sum (term f) vs) (length vs)

-- the sums with one corner more
unfoldable pub added : CornerSums → Corner → CornerSums
added t v = sums_by (λ f. sum_in f t +ℤ term_at (term f) v) (t.corners + 1)

-- no sum is larger than so many corners of a field of 1,024 allow, and there are at most n of them
pub record Room (t : CornerSums) (n : ℕ) : Type 0 where
  pub sum_within : (f : Figure) → nat_abs (sum_in f t) ≤ t.corners * largest_term
  pub few : t.corners ≤ n

-- there is room for k corners more, in a field of 1,024
abbrev pub RoomFor : ℕ → CornerSums → Type 0
RoomFor k t = Room t (field_points 1024 - k)

-- sums, and the totals that they come to
pub record Whole (t : CornerSums) (r : Totals) : Type 0 where
  pub figure_is : (f : Figure) → sum_in f t ≡ value f r
  pub corners_is : t.corners ≡ r.corners

-- sums that totals can hold
abbrev pub SomeTotals : CornerSums → Type 0
SomeTotals t = (r : Totals) × Whole t r

-- the totals of a solid in a field of side n, by counting
unfoldable pub totals_of : ℕ → Cells → Totals
totals_of n s = record { volume = volume n s; area = area n s; edge = edge_length n s; inner = inner_length n s; corners = corner_count n s }
