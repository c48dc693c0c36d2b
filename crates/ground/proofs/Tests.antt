-- Tests of numbers, joined by 'or' and 'and' or negated, and what they say. Assumes nothing.
-- A test alone, both ways, is in the kit (borrow.Author.Tests).
use mathlib.Core.Path.{◌≡◌, refl, sym, ◌∙◌}
use mathlib.Core.Logic.{◌↔◌, ◌⊎◌, inl, inr, ⊎_elim}
use mathlib.Core.Bool.{Bool, true, false, not, ◌&&◌, ◌||◌, true≢false}
use Prim.Native.Nat.{ℕ, ◌≤◌, ◌<◌}
use native.Mathlib.Omega.{arith}
use lib.Dec.{ltb, leb, eqb}
use borrow.Author.Tests.{ltb-true, leb-true, leb-false, eqb-true, eqb-false, lt-ltb, le-leb, eq-eqb}
use Rattle.ground.proofs.Bools.{or-true, or-true-left, or_true_right}

-- ---- what a test says
pub ltb-says : (a b : ℕ) → (ltb a b ≡ true) ↔ (a < b)
ltb-says a b = (ltb-true a b, lt-ltb a b)

pub leb-says : (a b : ℕ) → (leb a b ≡ true) ↔ (a ≤ b)
leb-says a b = (leb-true a b, le-leb a b)

pub eqb-says : (a b : ℕ) → (eqb a b ≡ true) ↔ (a ≡ b)
eqb-says a b = (eqb-true a b, eq-eqb a b)

pub not-says : (a : Bool) {P : Type 0} → (a ≡ true) ↔ P → (not a ≡ true) ↔ (¬ P)
not-says true s = (λ e. absurd (true≢false (sym e)), λ n. absurd (n (s.0 refl)))
not-says false s = (λ e p. true≢false (sym (s.1 p)), λ n. refl)

pub or-says : (a b : Bool) {P Q : Type 0} → (a ≡ true) ↔ P → (b ≡ true) ↔ Q → (a || b ≡ true) ↔ (P ⊎ Q)
or-says a b s t = (λ e. ⊎_elim (λ h. inl (s.0 h)) (λ h. inr (t.0 h)) (or-true a b e), ⊎_elim (λ p. or-true-left a b (s.1 p)) (λ q. or_true_right a b (t.1 q)))

pub and-says : (a b : Bool) {P Q : Type 0} → (a ≡ true) ↔ P → (b ≡ true) ↔ Q → (a && b ≡ true) ↔ (P × Q)
and-says true b s t = (λ e. (s.0 refl, t.0 e), λ p. t.1 p.1)
and-says false b s t = (λ e. absurd (true≢false (sym e)), λ p. absurd (true≢false (sym (s.1 p.0))))

-- ---- two numbers
pub less-or-not : (a b : ℕ) → (a < b) ⊎ (b ≤ a)
less-or-not a b = go (leb b a) refl
  where
    go : (t : Bool) → leb b a ≡ t → (a < b) ⊎ (b ≤ a)
    go true e = inr (leb-true b a e)
    go false e = inl (leb-false b a e)

pub same-or-other : (a b : ℕ) → (a ≡ b) ⊎ (a ≡ b → ⊥)
same-or-other a b = go (eqb a b) refl
  where
    go : (t : Bool) → eqb a b ≡ t → (a ≡ b) ⊎ (a ≡ b → ⊥)
    go true e = inl (eqb-true a b e)
    go false e = inr (eqb-false a b e)

-- ---- tests of numbers
-- what is not refused by a test of equality
pub settled : (a b : ℕ) → ¬ (¬ (a ≡ b)) → a ≡ b
settled a b h = go (eqb a b) refl
  where
    go : (t : Bool) → eqb a b ≡ t → a ≡ b
    go true e = eqb-true a b e
    go false e = absurd (h (eqb-false a b e))

-- tests of orders that imply each other
pub leb-alike : (a b c d : ℕ) → (a ≤ b → c ≤ d) → (c ≤ d → a ≤ b) → leb a b ≡ leb c d
leb-alike a b c d f g = one (leb a b) (leb c d) refl refl
  where
    one : (s t : Bool) → leb a b ≡ s → leb c d ≡ t → leb a b ≡ leb c d
    one true t e e' = e ∙ sym (le-leb c d (f (leb-true a b e)))
    one false true e e' = absurd (omega (arith, leb-false a b e, g (leb-true c d e')))
    one false false e e' = e ∙ sym e'
