-- The amounts of a field of at most 1,024 are no more than the top of a table. Assumes nothing.
use mathlib.Core.Bool.{Bool, false}
use Prim.Native.Nat.{ℕ, suc, ◌*◌, ◌≤◌}
use native.Mathlib.Omega.{arith}
use native.Mathlib.Nat.{mul-le-mul}
use lib.Dec.{leb, leb→le}
use Rattle.ground.specs.Sums.{total}
use Rattle.ground.specs.Numbers.{bit}
use Rattle.ground.proofs.Bits.{bit-most}
use Rattle.ground.proofs.Cases.{each_four-at}
use Rattle.ground.proofs.TotalLaws.{total-most}
use Rattle.lattice.specs.Cells.{Cells, below, up, volume, OfTwo, area_by, square, area, OfFour, length_by, edge, edge_length}
use Rattle.price_bands.specs.Bands.{top}

-- three sums, one in the other, in a field of at most 1,024, with its points
sums-most : (m : ℕ) (f : ℕ → ℕ → ℕ → ℕ) → ((x y z : ℕ) → f x y z ≤ m) → (a b c : ℕ) → a ≤ 1025 → b ≤ 1025 → c ≤ 1025
    → total a (λ x. total b (λ y. total c (λ z. f x y z))) ≤ 1025 * (1025 * (1025 * m))
sums-most m f h a b c ha hb hc = omega (arith, sums, mul-le-mul ha (mul-le-mul hb (mul-le-mul hc (same m))))
  where
    same : (n : ℕ) → n ≤ n
    same n = omega arith

    sums : total a (λ x. total b (λ y. total c (λ z. f x y z))) ≤ a * (b * (c * m))
    sums = total-most a (b * (c * m)) _ (λ x _. total-most b (c * m) _ (λ y _. total-most c m _ (λ z _. h x y z)))

-- a unit square counts at most 1, a unit edge at most 2
square-most : (q : Bool → Bool) → square q ≤ 1
square-most q = leb→le (square q) 1 (each_four-at (λ p. leb (square (λ a. p a false)) 1) tt (λ a _. q a))

unit-edge-most : (q : Bool → Bool → Bool) → edge q ≤ 2
unit-edge-most q = leb→le (edge q) 2 (each_four-at (λ q. leb (edge q) 2) tt q)

module _ (F : ℕ) (s : Cells) (most : F ≤ 1024) where
  pub volume-most : volume F s ≤ top
  unfolding volume
  volume-most = omega (arith, sums-most 1 (λ i j k. bit (s i j k)) (λ i j k. bit-most (s i j k)) F F F (omega arith) (omega arith) (omega arith))

  -- any count of squares of at most 1 a square, and of unit edges of at most 2 an edge
  pub squares-most : (count : OfTwo) → ((q : Bool → Bool) → count q ≤ 1) → area_by count F s ≤ top
  unfolding area_by
  squares-most count h =
      omega (
        arith,
        sums-most 1 (λ x j k. count (λ a. below s (up a x) (suc j) (suc k))) (λ x j k. h _) (suc F) F F (omega arith) (omega arith) (omega arith),
        sums-most 1 (λ i y k. count (λ b. below s (suc i) (up b y) (suc k))) (λ i y k. h _) F (suc F) F (omega arith) (omega arith) (omega arith),
        sums-most 1 (λ i j z. count (λ c. below s (suc i) (suc j) (up c z))) (λ i j z. h _) F F (suc F) (omega arith) (omega arith) (omega arith),
      )

  pub edges_most : (count : OfFour) → ((q : Bool → Bool → Bool) → count q ≤ 2) → length_by count F s ≤ top
  unfolding length_by
  edges_most count h =
      omega (
        arith,
        sums-most 2 (λ i y z. count (λ b c. below s (suc i) (up b y) (up c z))) (λ i y z. h _) F (suc F) (suc F) (omega arith) (omega arith) (omega arith),
        sums-most 2 (λ x j z. count (λ a c. below s (up a x) (suc j) (up c z))) (λ x j z. h _) (suc F) F (suc F) (omega arith) (omega arith) (omega arith),
        sums-most 2 (λ x y k. count (λ a b. below s (up a x) (up b y) (suc k))) (λ x y k. h _) (suc F) (suc F) F (omega arith) (omega arith) (omega arith),
      )

  pub area-most : area F s ≤ top
  area-most = squares-most square square-most

  pub edge_most : edge_length F s ≤ top
  edge_most = edges_most edge unit-edge-most
