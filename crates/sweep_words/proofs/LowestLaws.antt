-- The lowest set bit of a word, and the word without it.
use mathlib.Core.Path.{◌≡◌, refl, sym, ◌∙◌, ap, ap₂}
use mathlib.Core.Bool.{Bool, true, false, not, ◌&&◌, and-true, and-false}
use Prim.Native.Nat.{ℕ, zero, suc, ◌-◌, ◌/◌, ◌%◌, ◌^◌, ◌<◌, ◌≤◌}
use native.Mathlib.Nat.{lt_of_le_of_lt}
use native.Mathlib.Omega.{arith}
use lib.Bits.{bit_and, and_le_r}
use lib.Count.{count_trailing_zeros, under}
use lib.Dec.{eqb, eqb-suc-zero, eqb-suc-suc}
use borrow.Author.Tests.{eqb-true, eqb-false, ne_eqb}
use Rattle.sweep_words.specs.Words.{bit_at, Lowest, WithoutLowest}
use Rattle.sweep_words.proofs.BitLaws.{bit-first, bit-suc, bit-and}

-- ---- finding it
-- r is the lowest set bit of m, and below n
record LowestBelow (n m r : ℕ) : Type 0 where
  pub within : r < n
  pub set : bit_at m r ≡ true
  pub under : (b : ℕ) → b < r → bit_at m b ≡ false

lowest-odd : (n m : ℕ) → m % 2 ≡ 1 → LowestBelow (suc n) m zero
lowest-odd n m e = record {
  within = omega arith;
  set = bit-first m ∙ ap (λ (d : ℕ). eqb d 1) e;
  under = λ b h. absurd (omega arith);
}

lowest-even : (n m r : ℕ) → m % 2 ≡ 0 → LowestBelow n (m / 2) r → LowestBelow (suc n) m (suc r)
lowest-even n m r e l = record { within = omega (arith, l.within); set = bit-suc m r ∙ l.set; under = none-under }
  where
    none-under : (b : ℕ) → b < suc r → bit_at m b ≡ false
    none-under zero h = bit-first m ∙ ap (λ (d : ℕ). eqb d 1) e
    none-under (suc b) h = bit-suc m b ∙ l.under b (omega arith)

trailing_below : (n m : ℕ) → 0 < m → m < 2 ^ n → LowestBelow n m (count_trailing_zeros n m)
unfolding count_trailing_zeros
trailing_below zero m h k = absurd (omega arith)
trailing_below (suc n) m h k = go (trailing_below n (m / 2)) (m % 2) refl
  where
    go : (0 < m / 2 → m / 2 < 2 ^ n → LowestBelow n (m / 2) (count_trailing_zeros n (m / 2))) → (d : ℕ) → m % 2 ≡ d
        → LowestBelow (suc n) m (under d (count_trailing_zeros n (m / 2)))
    go rest zero e = lowest-even n m (count_trailing_zeros n (m / 2)) e (rest (omega arith) (omega arith))
    go rest (suc d) e = lowest-odd n m (omega arith)

pub trailing-lowest : (m : ℕ) → 0 < m → m < 2 ^ 64 → Lowest m (count_trailing_zeros 64 m)
trailing-lowest m h k =
    let l : LowestBelow 64 m (count_trailing_zeros 64 m) = trailing_below 64 m h k in
    record { within = l.within; set = l.set; under = l.under }

-- ---- taking it away
first-odd : (m : ℕ) → bit_at m 0 ≡ true → m % 2 ≡ 1
first-odd m e = eqb-true (m % 2) 1 (sym (bit-first m) ∙ e)

first-even : (m : ℕ) → bit_at m 0 ≡ false → m % 2 ≡ 0
first-even m e = let n : (m % 2 ≡ 1 → ⊥) = eqb-false (m % 2) 1 (sym (bit-first m) ∙ e) in omega arith

and_same : (b : Bool) → (b && b) ≡ (b && true)
and_same true = refl
and_same false = refl

-- one less than a word has its bits above the lowest, and not that
one_less : (k m : ℕ) → bit_at m k ≡ true → ((b : ℕ) → b < k → bit_at m b ≡ false)
    → (b : ℕ) → (bit_at m b && bit_at (m - 1) b) ≡ (bit_at m b && not (eqb b k))
one_less zero m s u zero =
    let odd : m % 2 ≡ 1 = first-odd m s in
    ap (λ (t : Bool). bit_at m 0 && t) (bit-first (m - 1) ∙ ap (λ (d : ℕ). eqb d 1) (let e : (m - 1) % 2 ≡ 0 = omega arith in e))
one_less zero m s u (suc b) =
    let odd : m % 2 ≡ 1 = first-odd m s in
    let half : (m - 1) / 2 ≡ m / 2 = omega arith in
    ap (λ (t : Bool). bit_at m (suc b) && t) (bit-suc (m - 1) b ∙ ap (λ (n : ℕ). bit_at n b) half ∙ sym (bit-suc m b))
    ∙ and_same (bit_at m (suc b)) ∙ ap (λ (t : Bool). bit_at m (suc b) && not t) (sym (eqb-suc-zero b))
one_less (suc k) m s u zero = rw (u 0 (omega arith))
one_less (suc k) m s u (suc b) =
    let even : m % 2 ≡ 0 = first-even m (u 0 (omega arith)) in
    let half : (m - 1) / 2 ≡ m / 2 - 1 = omega arith in
    ap₂ (λ (t t' : Bool). t && t') (bit-suc m b) (bit-suc (m - 1) b ∙ ap (λ (n : ℕ). bit_at n b) half)
    ∙ one_less k (m / 2) (sym (bit-suc m k) ∙ s) (λ i h. sym (bit-suc m i) ∙ u (suc i) (omega arith)) b
    ∙ ap₂ (λ (t t' : Bool). t && not t') (sym (bit-suc m b)) (sym (eqb-suc-suc b k))

pub and-one-less : (m : ℕ) → 0 < m → WithoutLowest m (bit_and m (m - 1))
and-one-less m h = record {
  less = lt_of_le_of_lt (and_le_r m (m - 1)) (omega arith);
  bits = λ k l b. bit-and m (m - 1) b ∙ one_less k m l.set l.under b;
}

-- ---- what is left
module _ {m r k : ℕ} (l : Lowest m k) (d : WithoutLowest m r) where
  pub left-under : (b : ℕ) → b ≤ k → bit_at r b ≡ false
  left-under b h = d.bits k l b ∙ go (eqb b k) refl
    where
      go : (t : Bool) → eqb b k ≡ t → (bit_at m b && not t) ≡ false
      go true e = and-false (bit_at m b)
      go false e = ap (λ (t : Bool). t && true) (l.under b (let n : (b ≡ k → ⊥) = eqb-false b k e in omega arith))

  pub left-above : (b : ℕ) → k < b → bit_at r b ≡ bit_at m b
  left-above b h = d.bits k l b ∙ ap (λ (t : Bool). bit_at m b && not t) (ne_eqb b k (λ e. omega arith)) ∙ and-true (bit_at m b)
