-- A test as a number: laws of `bit`.
use mathlib.Core.Path.{◌≡◌, refl, sym}
use mathlib.Core.Bool.{Bool, true, false, cond, ◌&&◌}
use mathlib.Core.List.{[], ◌∷◌}
use Prim.Native.Nat.{ℕ, zero, suc, ◌*◌, ◌≤◌, ◌<◌}
use native.Mathlib.Nat.{zero-mul, one-mul}
use native.Mathlib.Omega.{arith}
use lib.Dec.{eqb}
use lib.IntN.{pos}
use lib.ListN.{length}
use Rattle.ground.specs.Numbers.{bit}

pub bit-most : (b : Bool) → bit b ≤ 1
bit-most true = omega arith
bit-most false = omega arith

pub bit-and : (a b : Bool) → bit (a && b) ≡ bit a * bit b
bit-and true b = sym (one-mul (bit b))
bit-and false b = sym (zero-mul (bit b))

-- a number below 2 is a test's
pub bit-of : (n : ℕ) → n < 2 → n ≡ bit (eqb n 1)
bit-of zero h = refl
bit-of (suc zero) h = refl
bit-of (suc (suc n)) h = absurd (omega arith)

-- the number tells the test
pub bit-none : (b : Bool) → bit b ≡ 0 → b ≡ false
bit-none true e = absurd (omega arith)
bit-none false e = refl

pub bit-known : (a b : Bool) → pos (bit a) ≡ pos (bit b) → a ≡ b
bit-known true true h = refl
bit-known true false h = let e : ◌≡◌ {A = ℕ} 1 0 = cc in absurd (omega arith)
bit-known false true h = let e : ◌≡◌ {A = ℕ} 0 1 = cc in absurd (omega arith)
bit-known false false h = refl

-- what passes is one, what fails is none
pub bit_length : {A : Type 0} (b : Bool) (a : A) → length (cond b (a ∷ []) []) ≡ bit b
bit_length true a = refl
bit_length false a = refl
