-- A number's digits one after another. Assumes nothing.
use mathlib.Core.Path.{◌≡◌, refl, ap, ◌∙◌}
use mathlib.Core.Bool.{true, false, ◌&&◌}
use mathlib.Core.List.{List, [], ◌∷◌}
use Prim.Native.Nat.{ℕ, ◌+◌, ◌-◌, ◌*◌, ◌≤◌, ◌<◌}
use native.Mathlib.Omega.{arith}
use lib.ListN.{length, drop, get_or, drop_of_length-le}
use borrow.Author.Tests.{le-leb, lt-leb}
use Rattle.std.specs.Prelude.{Ok, Err}
use Rattle.std.specs.List.{list_all}
use Rattle.text_parts.specs.Decimal.{value_from}
use Rattle.text_same.proofs.SameLaws.{here}
use Rattle.typed_line.specs.declared.entry.NumberError.TheVariants.{NoDigit, TooLarge}
use Rattle.typed_line.specs.Entries.{digit, digits_only, word_number}

-- ---- digits
pub digits-tested : (w : List ℕ) → list_all digit w ≡ digits_only w
unfolding digits_only
digits-tested [] = refl
digits-tested (b ∷ s) = ap (λ t. digit b && t) (digits-tested s)

-- ---- what they are worth
value-cons : (v b : ℕ) (s : List ℕ) → value_from v (b ∷ s) ≡ value_from (v * 10 + (b - 48)) s
unfolding value_from
value-cons v b s = refl

value_none : (v : ℕ) → value_from v [] ≡ v
unfolding value_from
value_none v = refl

pub value-least : (v : ℕ) (s : List ℕ) → v ≤ value_from v s
unfolding value_from
value-least v [] = omega arith
value-least v (b ∷ s) = omega (arith, value-least (v * 10 + (b - 48)) s)

pub value_on : (w : List ℕ) (v i : ℕ) → i < length w → value_from v (drop i w) ≡ value_from (v * 10 + (get_or w i 0 - 48)) (drop (i + 1) w)
value_on w v i h = ap (value_from v) (here w i h) ∙ value-cons v (get_or w i 0) (drop (i + 1) w)

pub value-end : (w : List ℕ) (v i : ℕ) → length w ≤ i → value_from v (drop i w) ≡ v
value-end w v i h = ap (value_from v) (drop_of_length-le w h) ∙ value_none v

-- ---- numbers
pub number-not : (w : List ℕ) → digits_only w ≡ false → Err NoDigit ≡ word_number w
unfolding word_number
number-not w e = rw e

pub number-large : (w : List ℕ) → digits_only w ≡ true → 65535 < value_from 0 w → Err TooLarge ≡ word_number w
unfolding word_number
number-large w e h = rw (e, lt-leb (value_from 0 w) 65535 h)

pub number_is : (w : List ℕ) (v : ℕ) → digits_only w ≡ true → value_from 0 w ≡ v → v ≤ 65535 → Ok v ≡ word_number w
unfolding word_number
number_is w v e q h = rw (e, q, le-leb v 65535 h)
