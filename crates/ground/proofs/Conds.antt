-- Choices by a Bool: laws of `cond`. Assumes nothing.
use mathlib.Core.Path.{◌≡◌, refl}
use mathlib.Core.Bool.{Bool, true, false, cond, ◌||◌, true≢false, false≢true}
use Prim.Native.Nat.{ℕ, ◌≤◌}
use native.Mathlib.Omega.{arith}
use lib.Dec.{T}

-- of two tests the one that a third selects
pub chosen-true : (a b c : Bool) → T (cond a b c) → a ≡ true → T b
chosen-true true b c t e = t
chosen-true false b c t e = absurd (false≢true e)

pub chosen-false : (a b c : Bool) → T (cond a b c) → a ≡ false → T c
chosen-false true b c t e = absurd (true≢false e)
chosen-false false b c t e = t

-- a number, or none
pub cond-most : (t : Bool) (n : ℕ) → cond t n 0 ≤ n
cond-most true n = omega arith
cond-most false n = omega arith

module _ {A : Type 0} where
  -- only what is selected matters
  pub cond-agree : (a : Bool) (g h f : A) → (a ≡ true → g ≡ h) → cond a g f ≡ cond a h f
  cond-agree true g h f e = e refl
  cond-agree false g h f e = refl

  -- one choice after another that gives the same
  pub cond-twice : (a b : Bool) (g f : A) → cond b g (cond a g f) ≡ cond (a || b) g f
  cond-twice true true g f = refl
  cond-twice true false g f = refl
  cond-twice false b g f = refl
