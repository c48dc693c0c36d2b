-- Lists one after the other: how long they are, one more, and that empty ones add nothing; a series of single numbers: laws of `join`.
use mathlib.Core.Path.{◌≡◌, refl, sym, ◌∙◌, ap, fun_ext}
use mathlib.Core.Bool.{Bool, true, false}
use mathlib.Core.List.{List, [], ◌∷◌, ◌++◌, append_assoc, append-nil}
use Prim.Native.Nat.{ℕ, zero, suc, ◌+◌, ◌-◌, ◌*◌, ◌≤◌, ◌<◌}
use native.Mathlib.Nat.{add-zero, zero-add, add-suc, suc-add, zero-mul, suc-mul}
use native.Mathlib.Numerals.{add-one}
use native.Mathlib.Omega.{arith}
use lib.Dec.{ltb}
use lib.ListN.{length, get_or, length-append, get_or-append}
use lib.Seq.{get_or_at}
use borrow.Author.Tests.{ltb-true, ltb-false}
use Rattle.ground.specs.Sums.{total, join}

module _ {A : Type 0} where
  pub join-ext : (n : ℕ) {f g : ℕ → List A} → ((i : ℕ) → f i ≡ g i) → join n f ≡ join n g
  join-ext n h = ap (join n) (fun_ext h)

  pub length-join : (n : ℕ) (f : ℕ → List A) → length (join n f) ≡ total n (λ i. length (f i))
  unfolding join total
  length-join zero f = refl
  length-join (suc n) f = length-append (join n f) (f n) ∙ ap (λ t. t + length (f n)) (length-join n f)

  pub join-nil : (n : ℕ) {f : ℕ → List A} → ((i : ℕ) → f i ≡ []) → join n f ≡ []
  unfolding join
  join-nil zero h = refl
  join-nil (suc n) h = rw (join-nil n h, h n)

  pub join-end : (n k : ℕ) (f : ℕ → List A) → ((i : ℕ) → n ≤ i → f i ≡ []) → join (k + n) f ≡ join n f
  unfolding join
  join-end n zero f h = rw zero-add
  join-end n (suc k) f h = rw (suc-add k n, h (k + n) (omega arith), append-nil) (join-end n k f h)

module _ (f : ℕ → List ℕ) where
  pub join-next : (n : ℕ) → join (n + 1) f ≡ join n f ++ f n
  unfolding join
  join-next n = rw (add-one n)

  pub join-add : (n k : ℕ) → join (n + k) f ≡ join n f ++ join k (λ j. f (n + j))
  unfolding join
  join-add n zero = rw (add-zero n) (sym (append-nil (join n f)))
  join-add n (suc k) = rw (add-suc n k, join-add n k) (append_assoc (join n f) (join k (λ j. f (n + j))) (f (n + k)))

  pub join-length-next : (n : ℕ) → length (join (n + 1) f) ≡ length (join n f) + length (f n)
  join-length-next n = ap length (join-next n) ∙ length-append (join n f) (f n)

  pub join-length-up : (n m : ℕ) → n ≤ m → length (join n f) ≤ length (join m f)
  join-length-up n m h =
      let e : n + (m - n) ≡ m = omega arith in
      omega (arith, ap (λ (k : ℕ). length (join k f)) e, ap length (join-add n (m - n)), length-append (join n f) (join (m - n) (λ j. f (n + j))))

  pub join-length-most : (k : ℕ) → ((i : ℕ) → length (f i) ≤ k) → (n : ℕ) → length (join n f) ≤ n * k
  unfolding join
  join-length-most k h zero = omega (arith, zero-mul k)
  join-length-most k h (suc n) = omega (arith, length-append (join n f) (f n), h n, join-length-most k h n, suc-mul n k)

-- single numbers: number g of the series is its g-th list's one element
module _ (f : ℕ → ℕ) where
  pub singles-length : (n : ℕ) → length (join n (λ g. f g ∷ [])) ≡ n
  unfolding join
  singles-length zero = refl
  singles-length (suc n) = omega (arith, length-append (join n (λ g. f g ∷ [])) (f n ∷ []), singles-length n)

  pub singles-at : (n g : ℕ) → g < n → get_or (join n (λ g. f g ∷ [])) g 0 ≡ f g
  unfolding join
  singles-at zero g h = absurd (omega arith)
  singles-at (suc n) g h = one (ltb g n) refl (singles-at n g)
    where
      one : (b : Bool) → ltb g n ≡ b → (g < n → get_or (join n (λ g. f g ∷ [])) g 0 ≡ f g) → get_or (join n (λ g. f g ∷ []) ++ f n ∷ []) g 0 ≡ f g
      one true e before =
          get_or-append (join n (λ g. f g ∷ [])) (f n ∷ []) 0 g (omega (arith, singles-length n, ltb-true g n e)) ∙ before (ltb-true g n e)
      one false e before =
          let last : g ≡ n = omega (arith, ltb-false g n e) in
          rw last (get_or_at (join n (λ g. f g ∷ [])) (f n) [] 0 n (singles-length n))
