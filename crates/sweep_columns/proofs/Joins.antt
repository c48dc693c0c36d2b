-- Lists one after the other: those that agree, those in blocks of 63, and stretches of empty ones.
use mathlib.Core.Path.{◌≡◌, refl, sym, ◌∙◌, ap, ap₂, subst}
use mathlib.Core.List.{List, [], ◌++◌, append-nil, append_assoc}
use Prim.Native.Nat.{ℕ, zero, suc, ◌+◌, ◌-◌, ◌*◌, ◌<◌, ◌≤◌}
use native.Mathlib.Omega.{arith}
use Rattle.ground.specs.Sums.{join}

module _ {A : Type 0} where
  pub join-below : (n : ℕ) {f g : ℕ → List A} → ((i : ℕ) → i < n → f i ≡ g i) → join n f ≡ join n g
  unfolding join
  join-below zero h = refl
  join-below (suc n) h = ap₂ ◌++◌ (join-below n (λ i l. h i (omega arith))) (h n (omega arith))

  join-add : (n m : ℕ) (f : ℕ → List A) → join (n + m) f ≡ join n f ++ join m (λ i. f (n + i))
  unfolding join
  join-add n zero f =
      let e : n + zero ≡ n = omega arith in
      ap (λ k. join k f) e ∙ sym (append-nil (join n f))
  join-add n (suc m) f =
      let e : n + suc m ≡ suc (n + m) = omega arith in
      ap (λ k. join k f) e ∙ ap (λ v. v ++ f (n + m)) (join-add n m f) ∙ append_assoc (join n f) (join m (λ i. f (n + i))) (f (n + m))

  pub join-blocks : (n : ℕ) (f : ℕ → List A) → join n (λ k. join 63 λ b. f (63 * k + b)) ≡ join (63 * n) f
  unfolding join
  join-blocks zero f = refl
  join-blocks (suc n) f =
      let e : 63 * n + 63 ≡ 63 * suc n = omega arith in
      ap (λ v. v ++ join 63 λ b. f (63 * n + b)) (join-blocks n f) ∙ sym (join-add (63 * n) 63 f) ∙ ap (λ k. join k f) e

  join-past : (n k : ℕ) (f : ℕ → List A) → ((i : ℕ) → n ≤ i → i < n + k → f i ≡ []) → join (n + k) f ≡ join n f
  unfolding join
  join-past n zero f h =
      let e : n + zero ≡ n = omega arith in
      ap (λ k. join k f) e
  join-past n (suc k) f h =
      let e : n + suc k ≡ suc (n + k) = omega arith in
      ap (λ k. join k f) e
      ∙ ap₂ ◌++◌ (join-past n k f (λ i a b. h i a (omega arith))) (h (n + k) (omega arith) (omega arith))
      ∙ append-nil (join n f)

  pub join-quiet : (n m : ℕ) (f : ℕ → List A) → n ≤ m → ((i : ℕ) → n ≤ i → i < m → f i ≡ []) → join m f ≡ join n f
  join-quiet n m f h q =
      let e : n + (m - n) ≡ m = omega arith in
      subst (λ k. join k f ≡ join n f) e (join-past n (m - n) f (λ i a b. q i a (omega arith)))
