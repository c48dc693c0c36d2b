-- Over all points of a field the counts are the totals: every cell, unit square and unit edge of the field stands above one point, and what
-- stands above the far sides is outside the field and counts nothing.
use mathlib.Core.Path.{◌≡◌, refl, ap, ◌∙◌, fun_ext}
use mathlib.Core.Bool.{Bool, true, false}
use Prim.Native.Nat.{ℕ, zero, suc, ◌+◌}
use native.Mathlib.Nat.{add-zero}
use native.Mathlib.Numerals.{add-one}
use native.Mathlib.Omega.{arith}
use Rattle.ground.specs.Sums.{total}
use Rattle.ground.specs.Numbers.{bit}
use Rattle.lattice.specs.Cells.{Cells, Within, below, up, volume, area_by, square, area, OfFour, length_by, edge, inner_edge}
use Rattle.lattice.specs.Pattern.{around}
use Rattle.lattice.specs.Listing.{corner_count}
use Rattle.lattice_sums.specs.CornerSums.{totals_of}
use Rattle.lattice_sums.specs.declared.sums.Totals.{Totals}
use Rattle.lattice.proofs.Inside.{past}
use Rattle.ground.proofs.TotalLaws.{totals-plus, total-agree}
use Rattle.measure_tallies.specs.Tallies.{edges_above, at_pattern, nothing, plus}
use Rattle.measure_cells.specs.Points.{sum_to, field_to}

-- ---- a figure of a sum is the total of the figures

module _ (figure : Totals → ℕ) (none : figure nothing ≡ 0) (more : (t u : Totals) → figure (plus t u) ≡ figure t + figure u) where
  figure-sum : (n : ℕ) (f : ℕ → Totals) → figure (sum_to n f) ≡ total n (λ i. figure (f i))
  unfolding sum_to total
  figure-sum zero f = none
  figure-sum (suc n) f = more (sum_to n f) (f n) ∙ ap (λ (k : ℕ). k + figure (f n)) (figure-sum n f)

  figure-field : (s : Cells) (n : ℕ) → figure (field_to s n n n) ≡ (total n λ x. total n λ y. total n λ z. figure (at_pattern (around s x y z)))
  figure-field s n =
      figure-sum n _ ∙ total-agree n _ _ λ x h. figure-sum n _ ∙ total-agree n _ _ λ y k. figure-sum n _

-- ---- the far sides

total-short : (n : ℕ) (f : ℕ → ℕ) → f n ≡ 0 → total (suc n) f ≡ total n f
unfolding total
total-short n f e = rw e (add-zero (total n f))

total-zero : (n : ℕ) (f : ℕ → ℕ) → ((i : ℕ) → f i ≡ 0) → total n f ≡ 0
unfolding total
total-zero zero f h = refl
total-zero (suc n) f h = rw (total-zero n f h, h n)

-- a count over all points of a field that vanishes at the far sides of some axes
module _ (n : ℕ) (f : ℕ → ℕ → ℕ → ℕ) where
  short-x : ((y z : ℕ) → f n y z ≡ 0) → (m l : ℕ) → (total (suc n) λ x. total m λ y. total l λ z. f x y z) ≡ (total n λ x. total m λ y. total l λ z. f x y z)
  short-x h m l = total-short n _ (total-zero m _ λ y. total-zero l _ λ z. h y z)

  short-y : ((x z : ℕ) → f x n z ≡ 0) → (k l : ℕ) → (total k λ x. total (suc n) λ y. total l λ z. f x y z) ≡ (total k λ x. total n λ y. total l λ z. f x y z)
  short-y h k l = total-agree k _ _ λ x i. total-short n _ (total-zero l _ λ z. h x z)

  short-z : ((x y : ℕ) → f x y n ≡ 0) → (k m : ℕ) → (total k λ x. total m λ y. total (suc n) λ z. f x y z) ≡ (total k λ x. total m λ y. total n λ z. f x y z)
  short-z h k m = total-agree k _ _ λ x i. total-agree m _ _ λ y j. total-short n _ (h x y)

total-three : (k m l : ℕ) (f g h : ℕ → ℕ → ℕ → ℕ) → (total k λ x. total m λ y. total l λ z. f x y z + g x y z + h x y z) ≡ (total k λ x. total m λ y. total l λ z. f x y z) + (total k λ x. total m λ y. total l λ z. g x y z) + (total k λ x. total m λ y. total l λ z. h x y z)
total-three k m l f g h =
    totals-plus k m l (λ x y z. f x y z + g x y z) h ∙ ap (λ (t : ℕ). t + (total k λ x. total m λ y. total l λ z. h x y z)) (totals-plus k m l f g)

-- ---- outside the field nothing counts

square-none : (q : Bool → Bool) → ((a : Bool) → q a ≡ false) → square q ≡ 0
square-none q h = rw (h false, h true)

four-none : (count : OfFour) → count (λ b c. false) ≡ 0 → (q : Bool → Bool → Bool) → ((b c : Bool) → q b c ≡ false) → count q ≡ 0
four-none count none q h = ap count (fun_ext λ b. fun_ext λ c. h b c) ∙ none

module _ (n : ℕ) (s : Cells) (within : Within n s) where
  past-x : (y z : ℕ) → below s (suc n) y z ≡ false
  past-x y z = past n s within (suc n) y z (λ h. absurd (omega (arith, h.0)))

  past-y : (x z : ℕ) → below s x (suc n) z ≡ false
  past-y x z = past n s within x (suc n) z (λ h. absurd (omega (arith, h.1)))

  past-z : (x y : ℕ) → below s x y (suc n) ≡ false
  past-z x y = past n s within x y (suc n) (λ h. absurd (omega (arith, h.2)))

  volume-is : (total (suc n) λ x. total (suc n) λ y. total (suc n) λ z. bit (below s (suc x) (suc y) (suc z))) ≡ volume n s
  unfolding volume
  volume-is =
      short-x n (λ x y z. bit (below s (suc x) (suc y) (suc z))) (λ y z. ap bit (past-x (suc y) (suc z))) (suc n) (suc n)
      ∙ (short-y n (λ x y z. bit (below s (suc x) (suc y) (suc z))) (λ x z. ap bit (past-y (suc x) (suc z))) n (suc n)
      ∙ short-z n (λ x y z. bit (below s (suc x) (suc y) (suc z))) (λ x y. ap bit (past-z (suc x) (suc y))) n n)

  squares-x : (total (suc n) λ x. total (suc n) λ y. total (suc n) λ z. square (λ a. below s (up a x) (suc y) (suc z))) ≡ (total (suc n) λ x. total n λ j. total n λ k. square (λ a. below s (up a x) (suc j) (suc k)))
  squares-x =
      short-y n (λ x y z. square (λ a. below s (up a x) (suc y) (suc z))) (λ x z. square-none _ λ a. past-y (up a x) (suc z)) (suc n) (suc n)
      ∙ short-z n (λ x y z. square (λ a. below s (up a x) (suc y) (suc z))) (λ x y. square-none _ λ a. past-z (up a x) (suc y)) (suc n) n

  squares-y : (total (suc n) λ x. total (suc n) λ y. total (suc n) λ z. square (λ b. below s (suc x) (up b y) (suc z))) ≡ (total n λ i. total (suc n) λ y. total n λ k. square (λ b. below s (suc i) (up b y) (suc k)))
  squares-y =
      short-x n (λ x y z. square (λ b. below s (suc x) (up b y) (suc z))) (λ y z. square-none _ λ b. past-x (up b y) (suc z)) (suc n) (suc n)
      ∙ short-z n (λ x y z. square (λ b. below s (suc x) (up b y) (suc z))) (λ x y. square-none _ λ b. past-z (suc x) (up b y)) n (suc n)

  squares-z : (total (suc n) λ x. total (suc n) λ y. total (suc n) λ z. square (λ c. below s (suc x) (suc y) (up c z))) ≡ (total n λ i. total n λ j. total (suc n) λ z. square (λ c. below s (suc i) (suc j) (up c z)))
  squares-z =
      short-x n (λ x y z. square (λ c. below s (suc x) (suc y) (up c z))) (λ y z. square-none _ λ c. past-x (suc y) (up c z)) (suc n) (suc n)
      ∙ short-y n (λ x y z. square (λ c. below s (suc x) (suc y) (up c z))) (λ x z. square-none _ λ c. past-y (suc x) (up c z)) n (suc n)

  area-is : (total (suc n) λ x. total (suc n) λ y. total (suc n) λ z. square (λ a. below s (up a x) (suc y) (suc z)) + square (λ b. below s (suc x) (up b y) (suc z)) + square (λ c. below s (suc x) (suc y) (up c z))) ≡ area n s
  unfolding area_by
  area-is = total-three (suc n) (suc n) (suc n) (λ x y z. square (λ a. below s (up a x) (suc y) (suc z))) (λ x y z. square (λ b. below s (suc x) (up b y) (suc z))) (λ x y z. square (λ c. below s (suc x) (suc y) (up c z))) ∙ rw (squares-x, squares-y, squares-z)

  -- the length by any count that gives nothing where no cell is covered
  module _ (count : OfFour) (none : count (λ b c. false) ≡ 0) where
    edges-x : (total (suc n) λ x. total (suc n) λ y. total (suc n) λ z. count (λ b c. below s (suc x) (up b y) (up c z))) ≡ (total n λ i. total (suc n) λ y. total (suc n) λ z. count (λ b c. below s (suc i) (up b y) (up c z)))
    edges-x = short-x n (λ x y z. count (λ b c. below s (suc x) (up b y) (up c z))) (λ y z. four-none count none _ λ b c. past-x (up b y) (up c z)) (suc n) (suc n)

    edges-y : (total (suc n) λ x. total (suc n) λ y. total (suc n) λ z. count (λ a c. below s (up a x) (suc y) (up c z))) ≡ (total (suc n) λ x. total n λ j. total (suc n) λ z. count (λ a c. below s (up a x) (suc j) (up c z)))
    edges-y = short-y n (λ x y z. count (λ a c. below s (up a x) (suc y) (up c z))) (λ x z. four-none count none _ λ a c. past-y (up a x) (up c z)) (suc n) (suc n)

    edges-z : (total (suc n) λ x. total (suc n) λ y. total (suc n) λ z. count (λ a b. below s (up a x) (up b y) (suc z))) ≡ (total (suc n) λ x. total (suc n) λ y. total n λ k. count (λ a b. below s (up a x) (up b y) (suc k)))
    edges-z = short-z n (λ x y z. count (λ a b. below s (up a x) (up b y) (suc z))) (λ x y. four-none count none _ λ a b. past-z (up a x) (up b y)) (suc n) (suc n)

    length-is : (total (suc n) λ x. total (suc n) λ y. total (suc n) λ z. edges_above count (around s x y z)) ≡ length_by count n s
    unfolding length_by
    length-is = total-three (suc n) (suc n) (suc n) (λ x y z. count (λ b c. below s (suc x) (up b y) (up c z))) (λ x y z. count (λ a c. below s (up a x) (suc y) (up c z))) (λ x y z. count (λ a b. below s (up a x) (up b y) (suc z))) ∙ rw (edges-x, edges-y, edges-z)

  -- the counts over all points are the totals
  pub field-totals : field_to s (n + 1) (n + 1) (n + 1) ≡ totals_of n s
  unfolding totals_of plus at_pattern corner_count
  field-totals =
      rw (add-one n)
      (figures _ _
      (figure-field (λ t. t.volume) refl (λ t u. refl) s (suc n) ∙ volume-is)
      (figure-field (λ t. t.area) refl (λ t u. refl) s (suc n) ∙ area-is)
      (figure-field (λ t. t.edge) refl (λ t u. refl) s (suc n) ∙ length-is edge refl)
      (figure-field (λ t. t.inner) refl (λ t u. refl) s (suc n) ∙ length-is inner_edge refl)
      (figure-field (λ t. t.corners) refl (λ t u. refl) s (suc n)))
    where
      figures : (t u : Totals) → t.volume ≡ u.volume → t.area ≡ u.area → t.edge ≡ u.edge → t.inner ≡ u.inner → t.corners ≡ u.corners → t ≡ u
      figures t u a b c d e = λ i. record { volume = a i; area = b i; edge = c i; inner = d i; corners = e i }
