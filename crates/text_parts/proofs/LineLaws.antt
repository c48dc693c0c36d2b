-- Words and numbers written one after another; how long they are.
use mathlib.Core.Path.{◌≡◌, refl, sym, ap, ◌∙◌, subst}
use mathlib.Core.Bool.{Bool, true, false, cond}
use mathlib.Core.List.{List, [], ◌∷◌, ◌++◌}
use Prim.Native.Nat.{ℕ, zero, suc, ◌+◌, ◌-◌, ◌*◌, ◌/◌, ◌%◌, ◌^◌, ◌≤◌, ◌<◌}
use native.Mathlib.Numerals.{add-one}
use native.Mathlib.Nat.{pow-suc}
use native.Mathlib.Decide.{dec_lt}
use native.Mathlib.Omega.{arith}
use lib.Dec.{ltb}
use lib.ListN.{length, length-append}
use borrow.Author.Tests.{lt-ltb, le-ltb}
use Rattle.buffer.specs.Wrote.{Wrote}
use Rattle.buffer.proofs.WroteLaws.{wrote_none, wrote_then}
use Rattle.text_parts.specs.Decimal.{digits, decimal, line, value_from}

-- ---- a number
pub digits-length : (n a : ℕ) → length (digits n a) ≤ n
unfolding digits
digits-length zero a = omega arith
digits-length (suc n) a = omega (arith, length-append (cond (ltb a 10) [] (digits n (a / 10))) ((48 + a % 10) ∷ []), few (ltb a 10) (digits-length n (a / 10)))
  where
    few : (b : Bool) → length (digits n (a / 10)) ≤ n → length (cond b [] (digits n (a / 10))) ≤ n
    few true h = omega arith
    few false h = h

digits-none : (a : ℕ) → digits 0 a ≡ []
unfolding digits
digits-none a = refl

digits_last : (n a : ℕ) → a < 10 → digits (n + 1) a ≡ (48 + a % 10) ∷ []
unfolding digits
digits_last n a h = rw (add-one n, lt-ltb a 10 h)

digits_more : (n a : ℕ) → 10 ≤ a → digits (n + 1) a ≡ digits n (a / 10) ++ ((48 + a % 10) ∷ [])
unfolding digits
digits_more n a h = rw (add-one n, le-ltb a 10 h)

-- what is written where no digit, one digit, or more than one is left
module _ (n a : ℕ) where
  pub number-none : (w : List ℕ) (at : ℕ) → n ≡ 0 → at + n ≤ length w → Wrote w w at at (digits n a)
  number-none w at e h = rw (e, digits-none a) (wrote_none w at (omega arith))

  pub number-last : {w w' : List ℕ} {at r d : ℕ} → (n ≡ 0 → ⊥) → a < 10 → d ≡ 48 + a % 10 → Wrote w w' at r (d ∷ []) → Wrote w w' at r (digits n a)
  number-last {w} {w'} {at} {r} h l e b =
      let k : n - 1 + 1 ≡ n = omega arith in
      subst (Wrote w w' at r) (ap (λ d. d ∷ []) e ∙ sym (digits_last (n - 1) a l) ∙ ap (λ m. digits m a) k) b

  pub number_more : {w w' w'' : List ℕ} {at r r' d : ℕ} → (n ≡ 0 → ⊥) → 10 ≤ a → Wrote w w' at r (digits (n - 1) (a / 10)) → d ≡ 48 + a % 10 → Wrote w' w'' r r' (d ∷ []) → Wrote w w'' at r' (digits n a)
  number_more {w} {w'} {w''} {at} {r} {r'} h l b e d =
      let k : n - 1 + 1 ≡ n = omega arith in
      subst (Wrote w w'' at r') (ap (λ d. digits (n - 1) (a / 10) ++ (d ∷ [])) e ∙ sym (digits_more (n - 1) a l) ∙ ap (λ m. digits m a) k) (wrote_then b d)

pub line-length : (word : List ℕ) (a : ℕ) → length (line word a) ≤ length word + 22
line-length word a =
    omega (arith, length-append word (32 ∷ (digits 20 a ++ (10 ∷ []))), length-append (digits 20 a) (10 ∷ []), digits-length 20 a)

-- ---- what a decimal number is worth
value-append : (v : ℕ) (a b : List ℕ) → value_from v (a ++ b) ≡ value_from (value_from v a) b
unfolding value_from
value-append v [] b = refl
value-append v (d ∷ a) b = value-append (v * 10 + (d - 48)) a b

-- a number below 10ⁿ⁺¹, read back from its digits
digits_value : (n a : ℕ) → a < 10 ^ suc n → value_from 0 (digits (suc n) a) ≡ a
unfolding value_from
digits_value zero a h = ap (value_from 0) (digits_last 0 a h) ∙ omega (arith, h)
digits_value (suc n) a h = go (dec_lt a 10) (digits_value n (a / 10) (omega (arith, h, pow-suc 10 (suc n))))
  where
    go : Dec (a < 10) → value_from 0 (digits (suc n) (a / 10)) ≡ a / 10 → value_from 0 (digits (suc (suc n)) a) ≡ a
    go (yes l) e = ap (λ k. value_from 0 (digits k a)) (sym (add-one (suc n))) ∙ ap (value_from 0) (digits_last (suc n) a l) ∙ omega arith
    go (no g) e =
        ap (λ k. value_from 0 (digits k a)) (sym (add-one (suc n)))
        ∙ ap (value_from 0) (digits_more (suc n) a (omega arith))
        ∙ value-append 0 (digits (suc n) (a / 10)) ((48 + a % 10) ∷ [])
        ∙ omega (arith, e)

-- a 64-bit number, read back from its line
pub decimal-value : (a : ℕ) → a < 2 ^ 64 → value_from 0 (decimal a) ≡ a
decimal-value a h = digits_value 19 a (omega arith)
