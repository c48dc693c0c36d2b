-- Four tests as one: four sums of sixteen bits each, told by their highest bits.
use mathlib.Core.Path.{◌≡◌, refl, ap, ◌∙◌}
use mathlib.Core.Bool.{Bool, true, false, not, cond, ◌&&◌}
use Prim.Native.Nat.{ℕ, ◌+◌, ◌-◌, ◌*◌, ◌/◌, ◌%◌, ◌^◌, ◌≤◌, ◌<◌}
use native.Mathlib.Omega.{arith}
use lib.Bits.{bit_and, and_block, and_high}
use lib.Dec.{eqb, leb, ltb}
use borrow.Author.Tests.{le-leb, lt-leb, leb-true, leb-false, ltb-true, ltb-false}
use Rattle.lattice.specs.Boxes.{Box, BoxIn}
use Rattle.sweep_image.specs.Images.{RectIn}
use Rattle.sweep_image.specs.declared.Rect.{Rect}
use Rattle.sweep_overlaps.specs.Overlaps.{four_of, overlaps_rect}

-- the highest of sixteen bits, as a number
abbrev top : Bool → ℕ
top t = cond t 32768 0

top_bit : (a : ℕ) → a < 65536 → bit_and a 32768 ≡ top (leb 32768 a)
top_bit a h = and_high a 1 15 ∙ go (leb 32768 a) refl
  where
    go : (t : Bool) → leb 32768 a ≡ t → (a / 2 ^ 15 % 2 ^ 1) * 2 ^ 15 ≡ top t
    go true e = let k : 32768 ≤ a = leb-true 32768 a e in omega (arith, h, k)
    go false e = let k : a < 32768 = leb-false 32768 a e in omega (arith, k)

-- the highest bits of four numbers
top-bits : (a b c d : ℕ) → a < 65536 → b < 65536 → c < 65536 → d < 65536
    → bit_and (four_of a b c d) (four_of 32768 32768 32768 32768)
    ≡ four_of (top (leb 32768 a)) (top (leb 32768 b)) (top (leb 32768 c)) (top (leb 32768 d))
top-bits a b c d h i j k =
    and_block 16 ((d * 65536 + c) * 65536 + b) ((32768 * 65536 + 32768) * 65536 + 32768) a 32768 h (omega arith)
    ∙ ap (λ (n : ℕ). n * 65536 + bit_and a 32768)
    (and_block 16 (d * 65536 + c) (32768 * 65536 + 32768) b 32768 i (omega arith)
    ∙ ap (λ (n : ℕ). n * 65536 + bit_and b 32768) (and_block 16 d 32768 c 32768 j (omega arith)))
    ∙ rw (top_bit a h, top_bit b i, top_bit c j, top_bit d k)

-- those of the second and the fourth, and no other
second-fourth : (a b c d : Bool) → eqb (four_of (top a) (top b) (top c) (top d)) (four_of 0 32768 0 32768) ≡ (not a && b) && (not c && d)
second-fourth true true true true = refl
second-fourth true true true false = refl
second-fourth true true false true = refl
second-fourth true true false false = refl
second-fourth true false true true = refl
second-fourth true false true false = refl
second-fourth true false false true = refl
second-fourth true false false false = refl
second-fourth false true true true = refl
second-fourth false true true false = refl
second-fourth false true false true = refl
second-fourth false true false false = refl
second-fourth false false true true = refl
second-fourth false false true false = refl
second-fourth false false false true = refl
second-fourth false false false false = refl

-- a number has not reached a bound; it has passed one
not-reached : (a m : ℕ) → m ≤ 32768 → not (leb 32768 (a + (32768 - m))) ≡ ltb a m
not-reached a m h = go (ltb a m) refl
  where
    go : (t : Bool) → ltb a m ≡ t → not (leb 32768 (a + (32768 - m))) ≡ t
    go true e = let k : a < m = ltb-true a m e in ap not (lt-leb 32768 (a + (32768 - m)) (omega (arith, h, k)))
    go false e = let k : m ≤ a = ltb-false a m e in ap not (le-leb 32768 (a + (32768 - m)) (omega (arith, h, k)))

passed : (a m : ℕ) → m ≤ 32767 → leb 32768 (a + (32767 - m)) ≡ ltb m a
passed a m h = go (ltb m a) refl
  where
    go : (t : Bool) → ltb m a ≡ t → leb 32768 (a + (32767 - m)) ≡ t
    go true e = let k : m < a = ltb-true m a e in le-leb 32768 (a + (32767 - m)) (omega (arith, h, k))
    go false e = let k : a ≤ m = ltb-false m a e in lt-leb 32768 (a + (32767 - m)) (omega (arith, h, k))

-- a box and a rectangle
pub four-tests : (t : Box) (r : Rect) → BoxIn 1024 t → RectIn 1024 r → (v w : ℕ) → v ≡ four_of t.y t.y_end t.z t.z_end
    → w ≡ four_of (32768 - r.high) (32767 - r.low) (32768 - r.to) (32767 - r.from)
    → eqb (bit_and (v + w) (four_of 32768 32768 32768 32768)) (four_of 0 32768 0 32768) ≡ overlaps_rect t r
unfolding overlaps_rect
four-tests t r h k v w v-is w-is =
    let sum : v + w
    ≡ four_of (t.y + (32768 - r.high)) (t.y_end + (32767 - r.low)) (t.z + (32768 - r.to)) (t.z_end + (32767 - r.from))
    = omega (arith, v-is, w-is) in
    ap (λ (n : ℕ). eqb (bit_and n (four_of 32768 32768 32768 32768)) (four_of 0 32768 0 32768)) sum
    ∙ ap (λ (n : ℕ). eqb n (four_of 0 32768 0 32768))
    (top-bits (t.y + (32768 - r.high)) (t.y_end + (32767 - r.low)) (t.z + (32768 - r.to)) (t.z_end + (32767 - r.from))
    (omega (arith, h.y_order, h.y_in)) (omega (arith, h.y_in)) (omega (arith, h.z_order, h.z_in)) (omega (arith, h.z_in)))
    ∙ second-fourth (leb 32768 (t.y + (32768 - r.high))) (leb 32768 (t.y_end + (32767 - r.low)))
    (leb 32768 (t.z + (32768 - r.to))) (leb 32768 (t.z_end + (32767 - r.from)))
    ∙ rw (
      not-reached t.y r.high (omega (arith, k.y_in)),
      passed t.y_end r.low (omega (arith, k.y_order, k.y_in)),
      not-reached t.z r.to (omega (arith, k.z_in)),
      passed t.z_end r.from (omega (arith, k.z_order, k.z_in)),
    )
