-- The listing: what is read back from its bytes, its length, and sums over its corners.
use mathlib.Core.Path.{◌≡◌, refl, sym, ◌∙◌, ap}
use mathlib.Core.Bool.{Bool, true, false, cond}
use mathlib.Core.List.{List, [], ◌∷◌, ◌++◌}
use Prim.Native.Nat.{ℕ, zero, suc, ◌+◌, ◌*◌, ◌/◌, ◌%◌}
use native.Mathlib.Nat.{mul-zero}
use native.Mathlib.Omega.{arith}
use lib.IntN.{ℤ, pos, ◌+ℤ◌, +ℤ_assoc, +ℤ_idl, +ℤ_idr, *ℤ-zero}
use lib.ListN.{length}
use Rattle.ground.specs.Sums.{sum, join}
use Rattle.ground.specs.Numbers.{bit}
use Rattle.lattice.specs.Cells.{Cells}
use Rattle.lattice.specs.Pattern.{Pattern, around, byte, corner, Term}
use Rattle.lattice.specs.Figures.{Figure, Volume, Area, EdgeLength, InnerLength, term}
use Rattle.lattice.specs.Listing.{Corner, here, corners, corner_count, corner_record, bytes, listing, read_back, over, term_at, corner_sum}
use Rattle.ground.proofs.Bits.{bit_length}
use Rattle.ground.proofs.SumLaws.{sum-ext}
use Rattle.ground.proofs.TotalLaws.{total_ext}
use Rattle.ground.proofs.JoinLaws.{length-join}
use Rattle.lattice.proofs.PointSums.{points}
use Rattle.lattice.proofs.PatternLaws.{of_byte-byte, no-corner-zero}

-- ---- bytes
two_bytes : (x : ℕ) → x % 256 + x / 256 * 256 ≡ x
two_bytes x = omega arith

pub read_back-bytes : (vs : List Corner) → read_back (bytes vs) ≡ vs
unfolding bytes read_back corner_record
read_back-bytes [] = refl
read_back-bytes (v ∷ vs) = rw (two_bytes v.x, two_bytes v.y, two_bytes v.z, read_back-bytes vs)

pub length-bytes : (vs : List Corner) → length (bytes vs) ≡ 7 * length vs
unfolding bytes corner_record
length-bytes [] = refl
length-bytes (v ∷ vs) = omega (arith, length-bytes vs)

-- ---- how many corners
length-here : (s : Cells) (x y z : ℕ) → length (here s x y z) ≡ bit (corner (around s x y z))
unfolding here
length-here s x y z = bit_length (corner (around s x y z)) (record { x = x; y = y; z = z; pattern = byte (around s x y z) })

pub length-corners : (n : ℕ) (s : Cells) → length (corners n s) ≡ corner_count n s
unfolding corners corner_count
length-corners n s =
    length-join (suc n) (λ x. join (suc n) λ y. join (suc n) λ z. here s x y z)
    ∙ total_ext (suc n) (λ x. length-join (suc n) (λ y. join (suc n) λ z. here s x y z)
    ∙ total_ext (suc n) (λ y. length-join (suc n) (λ z. here s x y z)
    ∙ total_ext (suc n) (λ z. length-here s x y z)))

pub length-listing : (n : ℕ) (s : Cells) → length (listing n s) ≡ 7 * corner_count n s
length-listing n s = length-bytes (corners n s) ∙ ap (λ k. 7 * k) (length-corners n s)

-- ---- sums over corners
pub over-append : (g : Corner → ℤ) (a b : List Corner) → over g (a ++ b) ≡ over g a +ℤ over g b
unfolding over
over-append g [] b = sym (+ℤ_idl (over g b))
over-append g (v ∷ a) b = rw (over-append g a b) (sym (+ℤ_assoc (g v) (over g a) (over g b)))

over-join : (g : Corner → ℤ) (n : ℕ) (f : ℕ → List Corner) → over g (join n f) ≡ sum n (λ i. over g (f i))
unfolding over join sum
over-join g zero f = refl
over-join g (suc n) f = over-append g (join n f) (f n) ∙ ap (λ t. t +ℤ over g (f n)) (over-join g n f)

-- a term that adds nothing where the weights are zero
abbrev pub Weighted : Term → Type 0
Weighted term = (x y z : ℕ) (p : Pattern) → corner p ≡ false → term x y z p ≡ pos 0

-- over corner points only, such a term sums to its sum over all points
pub corners-points : (n : ℕ) (s : Cells) (term : Term) → Weighted term → corner_sum term (corners n s) ≡ (points n λ x y z. term x y z (around s x y z))
unfolding corners corner_sum here over
corners-points n s term h =
    over-join (term_at term) (suc n) (λ x. join (suc n) λ y. join (suc n) λ z. here s x y z)
    ∙ sum-ext (suc n) (λ x. over-join (term_at term) (suc n) (λ y. join (suc n) λ z. here s x y z)
    ∙ sum-ext (suc n) (λ y. over-join (term_at term) (suc n) (λ z. here s x y z)
    ∙ sum-ext (suc n) (λ z. at-point x y z (corner (around s x y z)) refl)))
  where
    listed : ℕ → ℕ → ℕ → Corner
    listed x y z = record { x = x; y = y; z = z; pattern = byte (around s x y z) }

    at-point : (x y z : ℕ) (b : Bool) → corner (around s x y z) ≡ b → over (term_at term) (cond b (listed x y z ∷ []) []) ≡ term x y z (around s x y z)
    at-point x y z true e = +ℤ_idr (term_at term (listed x y z)) ∙ ap (term x y z) (of_byte-byte (around s x y z))
    at-point x y z false e = sym (h x y z (around s x y z) e)

pub figure-weighted : (f : Figure) → Weighted (term f)
figure-weighted Volume x y z p e = rw (no-corner-zero p e 0) (*ℤ-zero (pos (x * y * z)))
figure-weighted Area x y z p e = simp (no-corner-zero p e 1, no-corner-zero p e 2, no-corner-zero p e 3, mul-zero)
figure-weighted EdgeLength x y z p e = simp (no-corner-zero p e 4, no-corner-zero p e 5, no-corner-zero p e 6, mul-zero)
figure-weighted InnerLength x y z p e = simp (no-corner-zero p e 7, no-corner-zero p e 8, no-corner-zero p e 9, mul-zero)
