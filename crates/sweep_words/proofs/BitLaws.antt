-- The bits of a word by their places: of 0, of one bit, of a run of ones, and what the operations on words do to each bit. Words with the
-- same bits are the same.
use mathlib.Core.Path.{◌≡◌, refl, sym, ◌∙◌, ap}
use mathlib.Core.Bool.{Bool, true, false, not, xor, ◌&&◌, ◌||◌, false≢true}
use Prim.Native.Nat.{ℕ, zero, suc, ◌+◌, ◌-◌, ◌*◌, ◌/◌, ◌%◌, ◌^◌, ◌<◌}
use native.Mathlib.Nat.{add_comm, zero-div, div-one}
use native.Mathlib.Numerals.{add-one}
use native.Mathlib.Omega.{arith}
use lib.Bits.{bit_and, bit_or, bit_xor, or_add_and, and_le_l, and_le_r, and_shr, or_shr, xor_shr, and_mod, or_mod, xor_mod, shifted_half, shifted_even}
use lib.Dec.{eqb, ltb, eqb-zero-suc, eqb-suc-zero, eqb-suc-suc, leb-zero, leb-suc-zero, leb-suc-suc}
use lib.Pow.{shr-shr, shl-shr, field, mod-mod-pow, pow_pos}
use Rattle.sweep_words.specs.Words.{bit_at}

-- ---- one bit after the other
pub bit-first : (w : ℕ) → bit_at w 0 ≡ eqb (w % 2) 1
unfolding bit_at
bit-first w = ap (λ (n : ℕ). eqb (n % 2) 1) (div-one w)

pub bit-shr : (w k b : ℕ) → bit_at (w / 2 ^ k) b ≡ bit_at w (b + k)
unfolding bit_at
bit-shr w k b = ap (λ (n : ℕ). eqb (n % 2) 1) (shr-shr w k b ∙ ap (λ (n : ℕ). w / 2 ^ n) (add_comm k b))

pub bit-suc : (w b : ℕ) → bit_at w (suc b) ≡ bit_at (w / 2) b
bit-suc w b = sym (bit-shr w 1 b ∙ ap (bit_at w) (add-one b))

-- ---- known words
pub bit-zero : (b : ℕ) → bit_at 0 b ≡ false
unfolding bit_at
bit-zero b = ap (λ (n : ℕ). eqb (n % 2) 1) (zero-div (2 ^ b))

-- a number of which all is shifted
pub bit-shl-low : (w k b : ℕ) → b < k → bit_at (w * 2 ^ k) b ≡ false
bit-shl-low w zero b h = absurd (omega arith)
bit-shl-low w (suc k) zero h = bit-first (w * 2 ^ suc k) ∙ ap (λ (n : ℕ). eqb n 1) (shifted_even w k)
bit-shl-low w (suc k) (suc b) h =
    bit-suc (w * 2 ^ suc k) b ∙ ap (λ (n : ℕ). bit_at n b) (shifted_half w k) ∙ bit-shl-low w k b (omega arith)

pub bit-shl-high : (w k b : ℕ) → bit_at (w * 2 ^ k) (b + k) ≡ bit_at w b
bit-shl-high w k b = sym (bit-shr (w * 2 ^ k) k b) ∙ ap (λ (n : ℕ). bit_at n b) (shl-shr w k)

-- bit k alone
pub bit-single : (k b : ℕ) → bit_at (2 ^ k) b ≡ eqb b k
bit-single zero zero = bit-first 1
bit-single zero (suc b) = bit-suc 1 b ∙ bit-zero b ∙ sym (eqb-suc-zero b)
bit-single (suc k) zero =
    let even : 2 ^ suc k % 2 ≡ 0 = omega arith in
    bit-first (2 ^ suc k) ∙ ap (λ (n : ℕ). eqb n 1) even ∙ sym (eqb-zero-suc k)
bit-single (suc k) (suc b) =
    let half : 2 ^ suc k / 2 ≡ 2 ^ k = omega arith in
    bit-suc (2 ^ suc k) b ∙ ap (λ (n : ℕ). bit_at n b) half ∙ bit-single k b ∙ sym (eqb-suc-suc b k)

-- the n low bits
pub bit-ones : (n b : ℕ) → bit_at (2 ^ n - 1) b ≡ ltb b n
bit-ones zero b = bit-zero b ∙ sym (leb-suc-zero b)
bit-ones (suc n) zero =
    let odd : (2 ^ suc n - 1) % 2 ≡ 1 = omega (arith, pow_pos n) in
    bit-first (2 ^ suc n - 1) ∙ ap (λ (m : ℕ). eqb m 1) odd ∙ sym (leb-suc-suc zero n ∙ leb-zero n)
bit-ones (suc n) (suc b) =
    let half : (2 ^ suc n - 1) / 2 ≡ 2 ^ n - 1 = omega (arith, pow_pos n) in
    bit-suc (2 ^ suc n - 1) b ∙ ap (λ (m : ℕ). bit_at m b) half ∙ bit-ones n b ∙ sym (leb-suc-suc (suc b) n)

-- ---- operations on words
-- an operation that goes through shifts and masks goes bit by bit
module _ (op : ℕ → ℕ → ℕ) (f : Bool → Bool → Bool)
    (shr : (v w k : ℕ) → op v w / 2 ^ k ≡ op (v / 2 ^ k) (w / 2 ^ k))
    (modulo : (v w k : ℕ) → op v w % 2 ^ k ≡ op (v % 2 ^ k) (w % 2 ^ k))
    (digit : (x y : ℕ) → x < 2 → y < 2 → eqb (op x y) 1 ≡ f (eqb x 1) (eqb y 1)) where
  bitwise : (v w b : ℕ) → bit_at (op v w) b ≡ f (bit_at v b) (bit_at w b)
  unfolding bit_at
  bitwise v w b =
      ap (λ (n : ℕ). eqb n 1) (ap (λ (n : ℕ). n % 2) (shr v w b) ∙ modulo (v / 2 ^ b) (w / 2 ^ b) 1)
      ∙ digit (v / 2 ^ b % 2) (w / 2 ^ b % 2) (omega arith) (omega arith)

-- what holds of 0 and 1 holds of each pair of digits
digits : (P : ℕ → ℕ → Type 0) → P 0 0 → P 0 1 → P 1 0 → P 1 1 → (x y : ℕ) → x < 2 → y < 2 → P x y
digits P p q r s zero zero h k = p
digits P p q r s zero (suc zero) h k = q
digits P p q r s zero (suc (suc y)) h k = absurd (omega arith)
digits P p q r s (suc zero) zero h k = r
digits P p q r s (suc zero) (suc zero) h k = s
digits P p q r s (suc zero) (suc (suc y)) h k = absurd (omega arith)
digits P p q r s (suc (suc x)) y h k = absurd (omega arith)

pub bit-and : (v w b : ℕ) → bit_at (bit_and v w) b ≡ (bit_at v b && bit_at w b)
bit-and =
    bitwise bit_and ◌&&◌ and_shr and_mod (digits (λ x y. eqb (bit_and x y) 1 ≡ (eqb x 1 && eqb y 1)) refl refl refl refl)

pub bit-or : (v w b : ℕ) → bit_at (bit_or v w) b ≡ (bit_at v b || bit_at w b)
bit-or = bitwise bit_or ◌||◌ or_shr or_mod (digits (λ x y. eqb (bit_or x y) 1 ≡ (eqb x 1 || eqb y 1)) refl refl refl refl)

pub bit-xor : (v w b : ℕ) → bit_at (bit_xor v w) b ≡ xor (bit_at v b) (bit_at w b)
unfolding xor
bit-xor = bitwise bit_xor xor xor_shr xor_mod (digits (λ x y. eqb (bit_xor x y) 1 ≡ xor (eqb x 1) (eqb y 1)) refl refl refl refl)

-- the n low bits of a word
pub bit-mod : (n w b : ℕ) → b < n → bit_at (w % 2 ^ n) b ≡ bit_at w b
unfolding bit_at
bit-mod n w b h =
    let j : ℕ = n - suc b in
    let e : n ≡ j + 1 + b = omega arith in
    ap (λ (m : ℕ). eqb (m % 2) 1) (ap (λ (m : ℕ). w % 2 ^ m / 2 ^ b) e ∙ field w (j + 1) b)
    ∙ ap (λ (m : ℕ). eqb m 1) (mod-mod-pow (w / 2 ^ b) j 1)

digit_not : (x y : ℕ) → x + y ≡ 1 → eqb x 1 ≡ not (eqb y 1)
digit_not zero y e = ap (λ (n : ℕ). not (eqb n 1)) (let g : 1 ≡ y = omega arith in g)
digit_not (suc zero) y e = ap (λ (n : ℕ). not (eqb n 1)) (let g : 0 ≡ y = omega arith in g)
digit_not (suc (suc x)) y e = absurd (omega arith)

-- two words that add up to n ones have opposite bits
bit-opposite : (n v w b : ℕ) → v + w + 1 ≡ 2 ^ n → b < n → bit_at v b ≡ not (bit_at w b)
bit-opposite zero v w b e h = absurd (omega arith)
bit-opposite (suc n) v w zero e h = bit-first v ∙ digit_not (v % 2) (w % 2) (omega arith) ∙ ap not (sym (bit-first w))
bit-opposite (suc n) v w (suc b) e h = bit-suc v b ∙ bit-opposite n (v / 2) (w / 2) b (omega arith) (omega arith) ∙ ap not (sym (bit-suc w b))

pub bit_not : (w b : ℕ) → w < 2 ^ 64 → b < 64 → bit_at ((2 ^ 64 - 1) - w) b ≡ not (bit_at w b)
bit_not w b h k = bit-opposite 64 ((2 ^ 64 - 1) - w) w b (omega arith) k

-- ---- words by their bits
-- a word that has a bit is not 0
pub bit-some : (w b : ℕ) → bit_at w b ≡ true → 0 < w
bit-some zero b e = absurd (false≢true (sym (bit-zero b) ∙ e))
bit-some (suc w) b e = omega arith

-- where two words have no bit together, neither has one
pub or-none : (v w : ℕ) → bit_or v w ≡ 0 → (v ≡ 0) × (w ≡ 0)
or-none v w e = (omega (arith, or_add_and v w, and_le_r v w), omega (arith, or_add_and v w, and_le_l v w))
