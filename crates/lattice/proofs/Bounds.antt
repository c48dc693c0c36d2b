-- How large the figures of a field of at most 1,024 are: every partial corner sum fits 64 bits with its sign, and so does the figure.
use mathlib.Core.Path.{ap}
use mathlib.Core.List.{List, [], ◌∷◌}
use Prim.Native.Nat.{ℕ, zero, suc, ◌*◌, ◌^◌, ◌<◌, ◌≤◌}
use native.Mathlib.Nat.{mul-le-mul, mul-one, le_trans, le_of_eq}
use native.Mathlib.Omega.{arith}
use lib.IntN.{nat_abs}
use lib.ListN.{length, take}
use lib.Seq.{take-length}
use Rattle.ground.specs.Sums.{total}
use Rattle.ground.proofs.Bits.{bit-most}
use Rattle.ground.proofs.TotalLaws.{total-most}
use Rattle.ground.specs.Numbers.{bit}
use Rattle.lattice.specs.Cells.{Cells, Within, field_points}
use Rattle.lattice.specs.Pattern.{around, corner, of_byte}
use Rattle.lattice.specs.Figures.{Figure, cell_count, term, largest_term}
use Rattle.lattice.specs.Listing.{Corner, corners, corner_count, IsCorner, All, over, term_at, corner_sum}
use Rattle.ground.proofs.Integers.{nat_abs-add}
use Rattle.lattice.proofs.ListingLaws.{length-corners}
use Rattle.lattice.proofs.Order.{all_map, corners-are}
use Rattle.lattice.proofs.TermBounds.{term-small}
use Rattle.lattice.proofs.Agreement.{corner-sums}

-- a corner in a field of 1,024
abbrev InReach : Corner → Type 0
InReach v = (v.x ≤ 1024) × (v.y ≤ 1024) × (v.z ≤ 1024)

sum-small : (f : Figure) (vs : List Corner) → All InReach vs → nat_abs (corner_sum (term f) vs) ≤ length vs * largest_term
unfolding corner_sum over
sum-small f [] a = omega arith
sum-small f (v ∷ vs) a =
    omega (
      arith,
      nat_abs-add (term_at (term f) v) (corner_sum (term f) vs),
      sum-small f vs a.1,
      term-small f v.x v.y v.z (of_byte v.pattern) a.0.0 a.0.1 a.0.2,
    )

all_take : (P : Corner → Type 0) (k : ℕ) (vs : List Corner) → All P vs → All P (take k vs) × (length (take k vs) ≤ length vs)
all_take P zero vs a = (tt, omega arith)
all_take P (suc k) [] a = (tt, omega arith)
all_take P (suc k) (v ∷ vs) a = let r = all_take P k vs a.1 in ((a.0, r.0), omega (arith, r.1))

-- ---- there are no more corners than lattice points
count_most : (n : ℕ) (s : Cells) → corner_count n s ≤ field_points n
unfolding corner_count
count_most n s =
    le_trans
    (total-most (suc n) (suc n * (suc n * 1)) (λ x. total (suc n) λ y. total (suc n) λ z. bit (corner (around s x y z))) (λ x _.
    total-most (suc n) (suc n * 1) (λ y. total (suc n) λ z. bit (corner (around s x y z))) (λ y _.
    total-most (suc n) 1 (λ z. bit (corner (around s x y z))) (λ z _. bit-most (corner (around s x y z))))))
    (le_of_eq (rw mul-one))

-- a field has no more points than a wider one
points-up : (n m : ℕ) → n ≤ m → field_points n ≤ field_points m
points-up n m h = let l : suc n ≤ suc m = omega arith in mul-le-mul l (mul-le-mul l l)

module _ (n : ℕ) (s : Cells) (small : n ≤ 1024) where
  reach : All InReach (corners n s)
  reach = all_map (IsCorner n s) InReach (λ v c. (omega (arith, c.x_in), omega (arith, c.y_in), omega (arith, c.z_in))) (corners n s) (corners-are s n)

  pub corners-fit : length (corners n s) ≤ field_points 1024
  corners-fit = le_trans (le_of_eq (length-corners n s)) (le_trans (count_most n s) (points-up n 1024 small))

  module _ (f : Figure) where
    partial : (k : ℕ) → nat_abs (corner_sum (term f) (take k (corners n s))) ≤ field_points 1024 * largest_term
    partial k =
        let r = all_take InReach k (corners n s) reach in
        le_trans (sum-small f (take k (corners n s)) r.0) (mul-le-mul {n₂ = field_points 1024} {m₂ = largest_term} (omega (arith, r.1, corners-fit)) (omega arith))

    -- the sum over the first k corners, whatever k is, is below 2⁶³
    pub partial-fits : (k : ℕ) → nat_abs (corner_sum (term f) (take k (corners n s))) < 2 ^ 63
    partial-fits k = omega (arith, partial k)

    -- so is the figure
    pub figure-fits : Within n s → nat_abs (cell_count f n s) < 2 ^ 63
    figure-fits within =
        omega (arith, partial (length (corners n s)), ap (λ vs. nat_abs (corner_sum (term f) vs)) (take-length (corners n s)), ap nat_abs (corner-sums n s within f))
