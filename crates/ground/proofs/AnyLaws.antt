-- Whether some number below n passes a test: laws of `any_to`.
use mathlib.Core.Path.{◌≡◌, refl, sym, ◌∙◌, ap, ap₂, subst}
use mathlib.Core.Bool.{Bool, true, false, ◌||◌}
use mathlib.Core.Bool
use Prim.Native.Nat.{ℕ, zero, suc, ◌+◌, ◌-◌, ◌<◌, ◌≤◌}
use native.Mathlib.Nat.{add-zero, add-suc}
use native.Mathlib.Numerals.{add-one}
use native.Mathlib.Omega.{arith}
use lib.Dec.{T, eqb}
use borrow.Author.Tests.{eqb-true, eqb-false}
use Rattle.ground.specs.Numbers.{any_to}
use Rattle.ground.proofs.Bools.{is_true, or_elim, or_left, or_right}

pub any-to-ext : (n : ℕ) {f g : ℕ → Bool} → ((q : ℕ) → q < n → f q ≡ g q) → any_to n f ≡ any_to n g
unfolding any_to
any-to-ext zero h = refl
any-to-ext (suc n) h = ap₂ ◌||◌ (any-to-ext n (λ q l. h q (omega arith))) (h n (omega arith))

pub any-to-none : (n : ℕ) {f : ℕ → Bool} → ((q : ℕ) → q < n → f q ≡ false) → any_to n f ≡ false
unfolding any_to
any-to-none zero h = refl
any-to-none (suc n) h = ap₂ ◌||◌ (any-to-none n (λ q l. h q (omega arith))) (h n (omega arith))

cut : (m k : ℕ) {f : ℕ → Bool} → ((q : ℕ) → m ≤ q → q < m + k → f q ≡ false) → any_to (m + k) f ≡ any_to m f
unfolding any_to
cut m zero {f} g = ap (λ n. any_to n f) (add-zero m)
cut m (suc k) {f} g = ap (λ n. any_to n f) (add-suc m k) ∙ ap₂ ◌||◌ (cut m k (λ q a b. g q a (omega arith))) (g (m + k) (omega arith) (omega arith)) ∙ Bool.or-false (any_to m f)

-- numbers from m on do not matter where none of them passes
pub any-to-cut : (m n : ℕ) {f : ℕ → Bool} → m ≤ n → ((q : ℕ) → m ≤ q → q < n → f q ≡ false) → any_to n f ≡ any_to m f
any-to-cut m n {f} l h = let e : m + (n - m) ≡ n = omega arith in subst (λ k. any_to k f ≡ any_to m f) e (cut m (n - m) (λ q a b. h q a (omega arith)))

pub any-to-some : (n : ℕ) (f : ℕ → Bool) → T (any_to n f) → (q : ℕ) × (q < n) × T (f q)
unfolding any_to
any-to-some zero f t = absurd t
any-to-some (suc n) f t = or_elim (any_to n f) (f n) t (λ h. let r = any-to-some n f h in (r.0, omega (arith, r.1), r.2)) (λ h. (n, omega arith, h))

pub any-to-at : (n : ℕ) (f : ℕ → Bool) (q : ℕ) → q < n → T (f q) → T (any_to n f)
unfolding any_to
any-to-at zero f q l t = absurd (omega arith)
any-to-at (suc n) f q l t = go (eqb q n) refl (any-to-at n f q)
  where
    go : (b : Bool) → eqb q n ≡ b → (q < n → T (f q) → T (any_to n f)) → T (any_to n f || f n)
    go true e r = or_right (any_to n f) (f n) (subst (λ k. T (f k)) (eqb-true q n e) t)
    go false e r = or_left (any_to n f) (f n) (r (let m : (q ≡ n → ⊥) = eqb-false q n e in omega arith) t)

pub any-to-more : (n : ℕ) (f : ℕ → Bool) → any_to (n + 1) f ≡ (any_to n f || f n)
unfolding any_to
any-to-more n f = rw (add-one n)

pub any-to-true : (n : ℕ) (f : ℕ → Bool) (q : ℕ) → q < n → f q ≡ true → any_to n f ≡ true
any-to-true n f q l e = is_true (any_to n f) (any-to-at n f q l (subst T (sym e) tt))

pub any-to-false : (n : ℕ) (f : ℕ → Bool) → any_to n f ≡ false → (q : ℕ) → q < n → f q ≡ false
any-to-false n f e q l = go (f q) refl
  where
    go : (b : Bool) → f q ≡ b → b ≡ false
    go true k = sym (any-to-true n f q l k) ∙ e
    go false k = refl

-- what some number below n passes, some number below a larger one does
pub any-to-less : (n m : ℕ) (f : ℕ → Bool) → n ≤ m → any_to n f ≡ true → any_to m f ≡ true
any-to-less n m f h e =
    let r = any-to-some n f (subst T (sym e) tt) in
    is_true (any_to m f) (any-to-at m f r.0 (omega (arith, r.1)) r.2)
