-- Unit cells, and the four totals by counting them: docs/SCOPE.md, 'Cells and totals'.
-- A solid is the predicate of its cells. A field of side n has the cells with i, j, k < n and the lattice points with x, y, z ≤ n.
use Rattle.std.specs.Prelude.{Bool, true, false, not, ℕ, zero, suc, ◌+◌, ◌*◌, ◌<◌, T, eqb}
use Rattle.ground.specs.Sums.{total}
use Rattle.ground.specs.Numbers.{bit}

-- cell (i, j, k) fills i to i + 1, j to j + 1, k to k + 1
abbrev pub Cells : Type 0
Cells = ℕ → ℕ → ℕ → Bool

-- everything outside a field of side n is uncovered
abbrev pub Within : ℕ → Cells → Type 0
Within n s = (i j k : ℕ) → T (s i j k) → (i < n) × (j < n) × (k < n)

-- how many lattice points a field of side n has on a line along an axis, in a plane across one, and in all
abbrev pub line_points : ℕ → ℕ
line_points n = suc n

abbrev pub plane_points : ℕ → ℕ
plane_points n = line_points n * line_points n

abbrev pub field_points : ℕ → ℕ
field_points n = line_points n * plane_points n

-- the cell that ends at (x, y, z); no cell ends at 0
abbrev pub below : Cells → ℕ → ℕ → ℕ → Bool
below s zero y z = false
below s (suc i) zero z = false
below s (suc i) (suc j) zero = false
below s (suc i) (suc j) (suc k) = s i j k

-- the cell below (false) or above (true) a place on an axis, by the point where it ends
abbrev pub up : Bool → ℕ → ℕ
up false x = x
up true x = suc x

-- volume: covered cells
unfoldable pub volume : ℕ → Cells → ℕ
volume n s = total n λ i. total n λ j. total n λ k. bit (s i j k)

-- area: what a unit square counts, by its two cells, summed over the unit squares across x, y and z, those on the field's sides too
abbrev pub OfTwo : Type 0
OfTwo = (Bool → Bool) → ℕ

unfoldable pub area_by : OfTwo → ℕ → Cells → ℕ
area_by count n s =
    (total (suc n) λ x. total n λ j. total n λ k. count (λ a. below s (up a x) (suc j) (suc k)))
    + (total n λ i. total (suc n) λ y. total n λ k. count (λ b. below s (suc i) (up b y) (suc k)))
    + (total n λ i. total n λ j. total (suc n) λ z. count (λ c. below s (suc i) (suc j) (up c z)))

-- one of the two cells is covered
abbrev pub square : OfTwo
square q = bit (differ (q false) (q true))
  where
    differ : Bool → Bool → Bool
    differ true b = not b
    differ false b = b

abbrev pub area : ℕ → Cells → ℕ
area = area_by square

-- length: what a unit edge counts, by its four cells, summed over the unit edges along x, y and z, those on the field's sides too
abbrev pub OfFour : Type 0
OfFour = (Bool → Bool → Bool) → ℕ

unfoldable pub length_by : OfFour → ℕ → Cells → ℕ
length_by count n s =
    (total n λ i. total (suc n) λ y. total (suc n) λ z. count (λ b c. below s (suc i) (up b y) (up c z)))
    + (total (suc n) λ x. total n λ j. total (suc n) λ z. count (λ a c. below s (up a x) (suc j) (up c z)))
    + (total (suc n) λ x. total (suc n) λ y. total n λ k. count (λ a b. below s (up a x) (up b y) (suc k)))

-- how many of the four cells are covered
abbrev pub covered : OfFour
covered q = bit (q false false) + bit (q false true) + bit (q true false) + bit (q true true)

-- outer unit edges: one counts 1; two that share only the unit edge count 2; all else 0
abbrev pub edge : OfFour
edge q = by (covered q) (alike (q false false) (q true true))
  where
    -- of two covered cells: both or neither lie on the diagonal from (below, below) to (above, above)
    alike : Bool → Bool → Bool
    alike true b = b
    alike false b = not b

    by : ℕ → Bool → ℕ
    by zero opposite = 0
    by (suc zero) opposite = 1
    by (suc (suc zero)) opposite = bit opposite + bit opposite
    by (suc (suc (suc n))) opposite = 0

abbrev pub edge_length : ℕ → Cells → ℕ
edge_length = length_by edge

-- inner unit edges: three count 1; all else 0
abbrev pub inner_edge : OfFour
inner_edge q = bit (eqb (covered q) 3)

abbrev pub inner_length : ℕ → Cells → ℕ
inner_length = length_by inner_edge

-- unit edges of either kind, by one count: one or three count 1; two that share only the unit edge count 2; all else 0
abbrev pub either_edge : OfFour
either_edge q = by (covered q)
  where
    by : ℕ → ℕ
    by zero = 0
    by (suc zero) = 1
    by (suc (suc zero)) = edge q
    by (suc (suc (suc zero))) = 1
    by (suc (suc (suc (suc n)))) = 0
