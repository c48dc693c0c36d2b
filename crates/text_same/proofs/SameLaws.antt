-- Texts byte after byte, and that the test says equality. Assumes nothing.
use mathlib.Core.Path.{◌≡◌, refl, ap, ap₂}
use mathlib.Core.Bool.{Bool, true, false, ◌&&◌}
use mathlib.Core.List.{List, [], ◌∷◌}
use mathlib.Core.Logic.{◌↔◌}
use Prim.Native.Nat.{ℕ, ◌+◌, ◌<◌}
use native.Mathlib.Numerals.{add-one}
use native.Mathlib.Omega.{arith}
use lib.Dec.{eqb}
use Rattle.std.specs.Cmp.Lexicographic.{pointwise}
use lib.ListN.{length, drop, get_or}
use lib.Seq.{drop-cons}
use borrow.Author.Tests.{eqb-true, eq-eqb}
use Rattle.text_same.specs.Same.{same}

-- ---- the test says equality
same-is : (a b : List ℕ) → same a b ≡ true → a ≡ b
unfolding same
same-is [] [] e = refl
same-is [] (b ∷ t) e = let z : ◌≡◌ {A = ℕ} 0 1 = cc in absurd (omega arith)
same-is (a ∷ s) [] e = let z : ◌≡◌ {A = ℕ} 0 1 = cc in absurd (omega arith)
same-is (a ∷ s) (b ∷ t) e = go (eqb a b) refl e (same-is s t)
  where
    go : (q : Bool) → eqb a b ≡ q → q && same s t ≡ true → (same s t ≡ true → s ≡ t) → a ∷ s ≡ b ∷ t
    go true h k f = ap₂ (λ x y. x ∷ y) (eqb-true a b h) (f k)
    go false h k f = let z : ◌≡◌ {A = ℕ} 0 1 = cc in absurd (omega arith)

same_self : (a : List ℕ) → same a a ≡ true
unfolding same
same_self [] = refl
same_self (a ∷ s) = rw (eq-eqb a a refl) (same_self s)

pub same-iff : (a b : List ℕ) → (same a b ≡ true) ↔ (a ≡ b)
same-iff a b = (same-is a b, λ e. rw (← e) (same_self a))

-- what `==` on slices says
pub pointwise-same : (a b : List ℕ) → pointwise eqb a b ≡ same a b
unfolding same
pointwise-same [] [] = refl
pointwise-same [] (b ∷ t) = refl
pointwise-same (a ∷ s) [] = refl
pointwise-same (a ∷ s) (b ∷ t) = ap (λ t. eqb a b && t) (pointwise-same s t)

-- ---- byte after byte
-- the bytes from a place on: the one there, and those after it
pub here : (s : List ℕ) (i : ℕ) → i < length s → drop i s ≡ get_or s i 0 ∷ drop (i + 1) s
here s i h = rw (add-one i) (drop-cons s i 0 h)
