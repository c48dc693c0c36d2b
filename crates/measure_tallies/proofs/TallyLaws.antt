-- What a pattern byte counts, bit by bit.
use mathlib.Core.Path.{◌≡◌, refl, ap}
use mathlib.Core.Bool.{Bool, true, false}
use Prim.Native.Nat.{ℕ, zero, suc, ◌+◌, ◌/◌, ◌%◌, ◌≤◌, ◌<◌}
use native.Mathlib.Nat.{add-zero, mod-eq_of_lt}
use native.Mathlib.Omega.{arith}
use lib.Dec.{eqb, leb, leb→le}
use mir.Val.{bool_byte}
use Rattle.ground.specs.Numbers.{bit}
use Rattle.ground.proofs.Bits.{bit-most, bit-of}
use Rattle.lattice.specs.Cells.{square, OfFour, covered, edge, inner_edge}
use Rattle.lattice.specs.Pattern.{Pattern, of_byte, w, ax, ay, az, ex, ey, ez, ix, iy, iz, some_nonzero, corner}
use Rattle.lattice_sums.specs.declared.sums.Totals.{Totals}
use Rattle.ground.proofs.Cases.{each_four-at}
use Rattle.measure_tallies.specs.Tallies.{edges_above, at_pattern, nothing, plus, differs, AtMost}

-- a test as a number
pub bit-is : (b : Bool) → bool_byte b ≡ bit b
bit-is true = refl
bit-is false = refl

-- a unit square by the bits of its two cells
square-bits : (x y : ℕ) → x < 2 → y < 2 → (q : Bool → Bool) → q false ≡ eqb x 1 → q true ≡ eqb y 1 → differs x y ≡ square q
square-bits zero zero h k q e f = rw (e, f)
square-bits zero (suc zero) h k q e f = rw (e, f)
square-bits (suc zero) zero h k q e f = rw (e, f)
square-bits (suc zero) (suc zero) h k q e f = rw (e, f)
square-bits (suc (suc x)) y h k q e f = absurd (omega arith)
square-bits zero (suc (suc y)) h k q e f = absurd (omega arith)
square-bits (suc zero) (suc (suc y)) h k q e f = absurd (omega arith)

module _ (p : ℕ) (h : p < 256) where
  top : p / 128 % 2 ≡ p / 128
  top = mod-eq_of_lt (omega arith)

  pub squares-are : {a b c : ℕ} → a ≡ differs (p / 8 % 2) (p / 128) → b ≡ differs (p / 32 % 2) (p / 128) → c ≡ differs (p / 64 % 2) (p / 128) → a + b + c ≡ (at_pattern (of_byte p)).area
  unfolding at_pattern of_byte
  squares-are ea eb ec =
      rw (ea, eb, ec, square-bits (p / 8 % 2) (p / 128) (omega arith) (omega arith) (λ a. of_byte p a true true) refl (ap (λ (n : ℕ). eqb n 1) top), square-bits (p / 32 % 2) (p / 128) (omega arith) (omega arith) (λ b. of_byte p true b true) refl (ap (λ (n : ℕ). eqb n 1) top), square-bits (p / 64 % 2) (p / 128) (omega arith) (omega arith) (λ c. of_byte p true true c) refl (ap (λ (n : ℕ). eqb n 1) top))

  pub cell-is : p / 128 ≡ (at_pattern (of_byte p)).volume
  unfolding at_pattern of_byte
  cell-is = rw top (bit-of (p / 128) (omega arith))

-- ---- no point counts much

edge_most : (q : Bool → Bool → Bool) → edge q ≤ 2
edge_most q = leb→le (edge q) 2 (each_four-at (λ q. leb (edge q) 2) tt q)

inner-most : (q : Bool → Bool → Bool) → inner_edge q ≤ 1
inner-most q = bit-most (eqb (covered q) 3)

square-most : (q : Bool → Bool) → square q ≤ 1
square-most q = one (q false) (q true) refl refl
  where
    one : (a b : Bool) → q false ≡ a → q true ≡ b → square q ≤ 1
    one true true e f = rw (e, f) (omega arith)
    one true false e f = rw (e, f) (omega arith)
    one false true e f = rw (e, f) (omega arith)
    one false false e f = rw (e, f) (omega arith)

pub pattern-most : (p : Pattern) → AtMost 6 (at_pattern p)
unfolding at_pattern
pattern-most p =
    record {
      volume_in = omega (arith, bit-most (p true true true));
      area_in = omega (arith, square-most (λ a. p a true true), square-most (λ b. p true b true), square-most (λ c. p true true c));
      edge_in = omega (arith, edge_most (λ b c. p true b c), edge_most (λ a c. p a true c), edge_most (λ a b. p a b true));
      inner_in = omega (arith, inner-most (λ b c. p true b c), inner-most (λ a c. p a true c), inner-most (λ a b. p a b true));
      corners_in = omega (arith, bit-most (corner p));
    }

pub edges_are : (count : OfFour) (p : Pattern) {a b c : ℕ}
    → a ≡ count (λ b c. p true b c) → b ≡ count (λ a c. p a true c) → c ≡ count (λ a b. p a b true) → a + b + c ≡ edges_above count p
edges_are count p ea eb ec = rw (ea, eb, ec)

pub plus-is : (t u : Totals) {a b c d e : ℕ} → a ≡ u.volume → b ≡ u.area → c ≡ u.edge → d ≡ u.inner → e ≡ u.corners
    → record { volume = t.volume + a; area = t.area + b; edge = t.edge + c; inner = t.inner + d; corners = t.corners + e } ≡ plus t u
unfolding plus
plus-is t u ea eb ec ed ee = rw (ea, eb, ec, ed, ee)

-- ---- points that lie wholly outside or inside

none-no-corner : corner (of_byte 0) ≡ false
unfolding corner some_nonzero w ax ay az ex ey ez ix iy iz of_byte
none-no-corner = refl

full-no-corner : corner (of_byte 255) ≡ false
unfolding corner some_nonzero w ax ay az ex ey ez ix iy iz of_byte
full-no-corner = refl

none-counts : at_pattern (of_byte 0) ≡ nothing
unfolding at_pattern of_byte
none-counts = rw none-no-corner

full-counts : at_pattern (of_byte 255) ≡ record { volume = 1; area = 0; edge = 0; inner = 0; corners = 0 }
unfolding at_pattern of_byte
full-counts = rw full-no-corner

module _ (t : Totals) (p : ℕ) where
  pub tally-none : p ≡ 0 → t ≡ plus t (at_pattern (of_byte p))
  unfolding plus
  tally-none e = rw (e, none-counts, add-zero t.volume, add-zero t.area, add-zero t.edge, add-zero t.inner, add-zero t.corners)

  pub tally-full : p ≡ 255 → record { volume = t.volume + 1; area = t.area; edge = t.edge; inner = t.inner; corners = t.corners } ≡ plus t (at_pattern (of_byte p))
  unfolding plus
  tally-full e = rw (e, full-counts, add-zero t.area, add-zero t.edge, add-zero t.inner, add-zero t.corners)
