-- The unit edges and the corner test as the pattern byte shows them: tests that are computed at all 256 bytes.
use mathlib.Core.Path.{◌≡◌, sym, ◌∙◌, ap}
use mathlib.Core.Bool.{Bool, true, false, cond, not, ◌&&◌, ◌||◌}
use Prim.Native.Nat.{ℕ, ◌+◌, ◌*◌, ◌/◌, ◌%◌, ◌<◌}
use lib.Dec.{T, eqb, eqb→eq}
use lib.Bits.{bit_and, bit_xor}
use lib.Count.{ones, ones_in}
use borrow.Author.Tests.{eq-eqb, ne_eqb}
use Rattle.ground.specs.Numbers.{bit}
use Rattle.lattice.specs.Cells.{covered, edge, inner_edge}
use Rattle.lattice.specs.Pattern.{of_byte, corner, some_nonzero, w, ax, ay, az, ex, ey, ez, ix, iy, iz}
use Rattle.lattice_edges.specs.UnitEdges.{four_about}
use Rattle.lattice_edges.specs.declared.UnitEdge.{UnitEdge}
use Rattle.lattice_edges.specs.declared.UnitEdge.TheVariants.{BelowX, AboveX, BelowY, AboveY, BelowZ, AboveZ}
use Rattle.ground.proofs.Bools.{same, same_at}
use Rattle.ground.proofs.Conds.{chosen-true, chosen-false}
use Rattle.ground.proofs.Cases.{each, each_at, each_four-at, each_from, each_below-at}

-- ---- the four cells about a unit edge in the byte
abbrev pub mask_of : UnitEdge → ℕ
mask_of BelowX = 0x0f
mask_of AboveX = 0xf0
mask_of BelowY = 0x33
mask_of AboveY = 0xcc
mask_of BelowZ = 0x55
mask_of AboveZ = 0xaa

counted : UnitEdge → ℕ → Bool
counted e p = eqb (ones (bit_and p (mask_of e))) (covered (four_about e (of_byte p)))

all-counted : (e : UnitEdge) → T (each_from (counted e) 0 256)
unfolding counted ones ones_in of_byte
all-counted BelowX = tt
all-counted AboveX = tt
all-counted BelowY = tt
all-counted AboveY = tt
all-counted BelowZ = tt
all-counted AboveZ = tt

pub mask-counts : (e : UnitEdge) {e' : UnitEdge} → e' ≡ e → (p : ℕ) → p < 256 → ones (bit_and p (mask_of e)) ≡ covered (four_about e' (of_byte p))
unfolding counted
mask-counts e k p h =
    eqb→eq (ones (bit_and p (mask_of e))) (covered (four_about e (of_byte p))) (each_below-at (counted e) 256 (all-counted e) p h)
    ∙ ap (λ e. covered (four_about e (of_byte p))) (sym k)

abbrev pub low_of : UnitEdge → ℕ → ℕ
low_of BelowX p = p % 16
low_of AboveX p = p / 16
low_of BelowY p = p % 4 + 4 * (p / 16 % 4)
low_of AboveY p = p / 4 % 4 + 4 * (p / 64)
low_of BelowZ p = p % 2 + 2 * (p / 4 % 2) + 4 * (p / 16 % 2) + 8 * (p / 64 % 2)
low_of AboveZ p = p / 2 % 2 + 2 * (p / 8 % 2) + 4 * (p / 32 % 2) + 8 * (p / 128)

gathered : UnitEdge → ℕ → Bool
gathered e p = each λ b. each λ c. same (of_byte (low_of e p) false b c) (four_about e (of_byte p) b c)

all-gathered : (e : UnitEdge) → T (each_from (gathered e) 0 256)
unfolding gathered of_byte
all-gathered BelowX = tt
all-gathered AboveX = tt
all-gathered BelowY = tt
all-gathered AboveY = tt
all-gathered BelowZ = tt
all-gathered AboveZ = tt

pub low-gathers : (e : UnitEdge) {e' : UnitEdge} → e' ≡ e → (p : ℕ) → p < 256 → (b c : Bool) → of_byte (low_of e p) false b c ≡ four_about e' (of_byte p) b c
unfolding gathered
low-gathers e k p h b c =
    same_at (of_byte (low_of e p) false b c) (four_about e (of_byte p) b c)
    (each_at (λ c. same (of_byte (low_of e p) false b c) (four_about e (of_byte p) b c))
    (each_at (λ b. each λ c. same (of_byte (low_of e p) false b c) (four_about e (of_byte p) b c)) (each_below-at (gathered e) 256 (all-gathered e) p h) b) c)
    ∙ ap (λ e. four_about e (of_byte p) b c) (sym k)

-- ---- what a unit edge counts
-- the low four bits decide: a cell by itself counts 1, and two opposite ones 2
abbrev pub by_low : ℕ → ℕ
by_low n = cond (eqb n 1 || eqb n 2 || eqb n 4 || eqb n 8) 1 (cond (eqb n 6 || eqb n 9) 2 0)

low_counted : ℕ → Bool
low_counted q = eqb (by_low (q % 16)) (edge (λ b c. of_byte q false b c))

all-low : T (each_from low_counted 0 256)
unfolding low_counted of_byte
all-low = tt

pub low-counts : (q : ℕ) → q < 256 → by_low (q % 16) ≡ edge (λ b c. of_byte q false b c)
unfolding low_counted
low-counts q h = eqb→eq (by_low (q % 16)) (edge (λ b c. of_byte q false b c)) (each_below-at low_counted 256 all-low q h)

-- how many of the four cells are covered decides, but for two of an outer edge
abbrev edge_by_count : (Bool → Bool → Bool) → Bool
edge_by_count q = cond (eqb (covered q) 1) (eqb (edge q) 1) (cond (eqb (covered q) 2) true (eqb (edge q) 0))

module _ (q : Bool → Bool → Bool) {n : ℕ} (counts : n ≡ covered q) where
  tested-one : T (edge_by_count q)
  tested-one = each_four-at edge_by_count tt q

  pub edge-one : n ≡ 1 → 1 ≡ edge q
  edge-one h = sym (eqb→eq (edge q) 1
      (chosen-true (eqb (covered q) 1) (eqb (edge q) 1) (cond (eqb (covered q) 2) true (eqb (edge q) 0)) tested-one (eq-eqb (covered q) 1 (sym counts ∙ h))))

  pub edge_none : (n ≡ 1 → ⊥) → (n ≡ 2 → ⊥) → 0 ≡ edge q
  edge_none one two = sym (eqb→eq (edge q) 0
      (chosen-false (eqb (covered q) 2) true (eqb (edge q) 0)
      (chosen-false (eqb (covered q) 1) (eqb (edge q) 1) (cond (eqb (covered q) 2) true (eqb (edge q) 0))
      tested-one (ne_eqb (covered q) 1 (λ k. one (counts ∙ k)))) (ne_eqb (covered q) 2 (λ k. two (counts ∙ k)))))

  pub inner-three : n ≡ 3 → 1 ≡ inner_edge q
  inner-three h = ap bit (sym (eq-eqb (covered q) 3 (sym counts ∙ h)))

  pub inner-none : (n ≡ 3 → ⊥) → 0 ≡ inner_edge q
  inner-none h = ap bit (sym (ne_eqb (covered q) 3 (λ k. h (counts ∙ k))))

-- ---- the corner test, axis after axis
abbrev steady-y : ℕ → ℕ
steady-y p = bit_and (bit_xor p (p / 4)) 51

abbrev steady-z : ℕ → ℕ
steady-z p = bit_and (bit_xor p (p / 2)) 85

abbrev pub on_xyz : ℕ → Bool
on_xyz p = not (eqb (p / 16) (p % 16)) && (not (eqb (steady-y p) 0) && not (eqb (steady-z p) 0))

all-on : T (each_from (λ p. same (on_xyz p) (corner (of_byte p))) 0 256)
unfolding of_byte corner some_nonzero w ax ay az ex ey ez ix iy iz
all-on = tt

pub each-axis : (p : ℕ) → p < 256 → on_xyz p ≡ corner (of_byte p)
each-axis p h = same_at (on_xyz p) (corner (of_byte p)) (each_below-at (λ p. same (on_xyz p) (corner (of_byte p))) 256 all-on p h)
