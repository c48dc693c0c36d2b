-- A test of both Bools, of all functions of two Bools, or of all numbers below a bound, that is computed once holds at each.
use mathlib.Core.Path.{◌≡◌, refl, sym, ◌∙◌, subst, fun_ext}
use mathlib.Core.Bool.{Bool, true, false, ◌&&◌}
use Prim.Native.Nat.{ℕ, zero, suc, ◌+◌, ◌<◌}
use native.Mathlib.Nat.{add-zero, zero-add, add-suc, suc-add, le_of_suc-le-suc, not-suc-le-zero}
use lib.Dec.{T}
use Rattle.ground.proofs.Bools.{and_left, and_right}

-- both values of a Bool
abbrev pub each : (Bool → Bool) → Bool
each f = f false && f true

pub each_at : (f : Bool → Bool) → T (each f) → (b : Bool) → T (f b)
each_at f t false = and_left (f false) (f true) t
each_at f t true = and_right (f false) (f true) t

-- a function of two Bools by its four values
abbrev four : Bool → Bool → Bool → Bool → Bool → Bool → Bool
four q₀ q₁ q₂ q₃ false false = q₀
four q₀ q₁ q₂ q₃ false true = q₁
four q₀ q₁ q₂ q₃ true false = q₂
four q₀ q₁ q₂ q₃ true true = q₃

four-of : (q : Bool → Bool → Bool) (b c : Bool) → four (q false false) (q false true) (q true false) (q true true) b c ≡ q b c
four-of q false false = refl
four-of q false true = refl
four-of q true false = refl
four-of q true true = refl

abbrev pub each_four : ((Bool → Bool → Bool) → Bool) → Bool
each_four f = each λ q₀. each λ q₁. each λ q₂. each λ q₃. f (four q₀ q₁ q₂ q₃)

pub each_four-at : (f : (Bool → Bool → Bool) → Bool) → T (each_four f) → (q : Bool → Bool → Bool) → T (f q)
each_four-at f t q =
    subst (λ (r : Bool → Bool → Bool). T (f r)) (fun_ext λ b. fun_ext λ c. four-of q b c)
    (each_at (λ q₃. f (four (q false false) (q false true) (q true false) q₃))
    (each_at (λ q₂. each λ q₃. f (four (q false false) (q false true) q₂ q₃))
    (each_at (λ q₁. each λ q₂. each λ q₃. f (four (q false false) q₁ q₂ q₃))
    (each_at (λ q₀. each λ q₁. each λ q₂. each λ q₃. f (four q₀ q₁ q₂ q₃)) t (q false false)) (q false true)) (q true false)) (q true true))

-- the numbers i, i + 1, .. i + n - 1
abbrev pub each_from : (ℕ → Bool) → ℕ → ℕ → Bool
each_from f i zero = true
each_from f i (suc n) = f i && each_from f (suc i) n

from_at : (f : ℕ → Bool) (i n : ℕ) → T (each_from f i n) → (k : ℕ) → k < n → T (f (i + k))
from_at f i zero t k h = absurd (not-suc-le-zero h)
from_at f i (suc n) t zero h = subst (λ (m : ℕ). T (f m)) (sym (add-zero i)) (and_left (f i) (each_from f (suc i) n) t)
from_at f i (suc n) t (suc k) h =
    subst (λ (m : ℕ). T (f m)) (suc-add i k ∙ sym (add-suc i k))
    (from_at f (suc i) n (and_right (f i) (each_from f (suc i) n) t) k (le_of_suc-le-suc h))

pub each_below-at : (f : ℕ → Bool) (n : ℕ) → T (each_from f 0 n) → (k : ℕ) → k < n → T (f k)
each_below-at f n t k h = subst (λ (m : ℕ). T (f m)) (zero-add k) (from_at f 0 n t k h)
