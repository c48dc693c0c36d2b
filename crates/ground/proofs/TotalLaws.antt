-- Totals over 0, 1, .. n - 1: term by term, in either order of two, by digits, and of products: laws of `total`.
use mathlib.Core.Path.{◌≡◌, refl, sym, ap, ◌∙◌, fun_ext}
use mathlib.Core.Bool.{Bool, true, false, ◌&&◌}
use Prim.Native.Nat.{ℕ, zero, suc, ◌+◌, ◌-◌, ◌*◌, ◌≤◌, ◌<◌}
use native.Mathlib.Nat.{zero-mul, suc-mul, mul-zero, mul-add, mul_assoc, mul_comm, add-zero, add-suc}
use native.Mathlib.Omega.{arith}
use lib.Dec.{leb, ltb, eqb}
use borrow.Author.Tests.{ltb-true, ltb-false, lt-ltb, le-ltb, leb-true, leb-false, eq-eqb, ne_eqb}
use Rattle.ground.specs.Sums.{total}
use Rattle.ground.specs.Numbers.{bit}
use Rattle.ground.proofs.Bits.{bit-and}

pub total_ext : (n : ℕ) {f g : ℕ → ℕ} → ((i : ℕ) → f i ≡ g i) → total n f ≡ total n g
total_ext n h = ap (total n) (fun_ext h)

pub total-plus : (n : ℕ) (f g : ℕ → ℕ) → total n (λ i. f i + g i) ≡ total n f + total n g
unfolding total
total-plus zero f g = refl
total-plus (suc n) f g = omega (arith, total-plus n f g)

-- three nested totals
pub totals-plus : (k m l : ℕ) (f g : ℕ → ℕ → ℕ → ℕ)
    → (total k λ x. total m λ y. total l λ z. f x y z + g x y z) ≡ (total k λ x. total m λ y. total l λ z. f x y z) + (total k λ x. total m λ y. total l λ z. g x y z)
totals-plus k m l f g =
    total_ext k (λ x.
    total_ext m (λ y. total-plus l (f x y) (g x y))
    ∙ total-plus m (λ y. total l (f x y)) (λ y. total l (g x y)))
    ∙ total-plus k (λ x. total m λ y. total l (f x y)) (λ x. total m λ y. total l (g x y))

pub total-agree : (n : ℕ) (f g : ℕ → ℕ) → ((i : ℕ) → i < n → f i ≡ g i) → total n f ≡ total n g
unfolding total
total-agree zero f g h = refl
total-agree (suc n) f g h = rw (total-agree n f g (λ i l. h i (omega arith)), h n (omega arith))

pub total-most : (n k : ℕ) (f : ℕ → ℕ) → ((i : ℕ) → i < n → f i ≤ k) → total n f ≤ n * k
unfolding total
total-most zero k f h = omega (arith, zero-mul k)
total-most (suc n) k f h = omega (arith, suc-mul n k, total-most n k f (λ i l. h i (omega arith)), h n (omega arith))

pub total-up : (n : ℕ) (f g : ℕ → ℕ) → ((i : ℕ) → f i ≤ g i) → total n f ≤ total n g
unfolding total
total-up zero f g h = omega arith
total-up (suc n) f g h = omega (arith, total-up n f g h, h n)

pub total-same : (n k : ℕ) → total n (λ i. k) ≡ n * k
unfolding total
total-same zero k = sym (zero-mul k)
total-same (suc n) k = omega (arith, total-same n k, suc-mul n k)

-- nothing but 0
pub total-none : (n : ℕ) (f : ℕ → ℕ) → ((i : ℕ) → i < n → f i ≡ 0) → total n f ≡ 0
unfolding total
total-none zero f h = refl
total-none (suc n) f h = omega (arith, total-none n f (λ i l. h i (omega arith)), h n (omega arith))

pub total-none-at : (n : ℕ) (f : ℕ → ℕ) → total n f ≡ 0 → (i : ℕ) → i < n → f i ≡ 0
unfolding total
total-none-at zero f e i h = absurd (omega arith)
total-none-at (suc n) f e i h = one (ltb i n) refl (total-none-at n f)
  where
    one : (b : Bool) → ltb i n ≡ b → (total n f ≡ 0 → (i : ℕ) → i < n → f i ≡ 0) → f i ≡ 0
    one true l before = before (omega arith) i (ltb-true i n l)
    one false l before =
        let last : n ≡ i = omega (arith, ltb-false i n l) in
        rw (← last) (omega arith)

-- in either order
pub total-swap : (n m : ℕ) (f : ℕ → ℕ → ℕ) → total n (λ i. total m (λ j. f i j)) ≡ total m (λ j. total n (λ i. f i j))
unfolding total
total-swap zero m f = sym (total-none m (λ j. 0) (λ j l. refl))
total-swap (suc n) m f = rw (total-swap n m f) (sym (total-plus m (λ j. total n (λ i. f i j)) (λ j. f n j)))

total-append : (n k : ℕ) (f : ℕ → ℕ) → total (n + k) f ≡ total n f + total k (λ j. f (n + j))
unfolding total
total-append n zero f = rw (add-zero n, add-zero (total n f))
total-append n (suc k) f = rw (add-suc n k) (omega (arith, total-append n k f))

pub total-front : (f : ℕ → ℕ) (n k : ℕ) → total n f ≤ total (n + k) f
total-front f n k = omega (arith, total-append n k f)

-- the numbers from a on and before b, cut at m
pub total-cut : (f : ℕ → ℕ) (a m b : ℕ) → a ≤ m → m ≤ b → total (b - a) (λ i. f (a + i)) ≡ total (m - a) (λ i. f (a + i)) + total (b - m) (λ i. f (m + i))
total-cut f a m b h k =
    let whole : b - a ≡ (m - a) + (b - m) = omega arith in
    rw whole (total-append (m - a) (b - m) (λ i. f (a + i)))
    ∙ ap (λ (t : ℕ). total (m - a) (λ i. f (a + i)) + t) (total-agree (b - m) _ _ λ i l. let place : a + (m - a + i) ≡ m + i = omega arith in ap f place)

-- by two digits
pub total-digits : (n m : ℕ) (f : ℕ → ℕ) → total (n * m) f ≡ total n (λ i. total m (λ j. f (i * m + j)))
unfolding total
total-digits zero m f = rw (zero-mul m)
total-digits (suc n) m f = rw (suc-mul n m) (total-append (n * m) m f ∙ ap (λ (t : ℕ). t + total m (λ j. f (n * m + j))) (total-digits n m f))

total-scale : (n c : ℕ) (f : ℕ → ℕ) → total n (λ i. c * f i) ≡ c * total n f
unfolding total
total-scale zero c f = sym (mul-zero c)
total-scale (suc n) c f = rw (total-scale n c f) (sym (mul-add c (total n f) (f n)))

total-scale-right : (n c : ℕ) (f : ℕ → ℕ) → total n (λ i. f i * c) ≡ total n f * c
total-scale-right n c f = total-agree n _ _ (λ i l. mul_comm (f i) c) ∙ (total-scale n c f ∙ mul_comm c (total n f))

-- the triples that pass three tests, one on each
pub total-triples : (n : ℕ) (p q r : ℕ → Bool) → total n (λ x. total n (λ y. total n (λ z. bit (p x && (q y && r z))))) ≡ total n (λ x. bit (p x)) * total n (λ y. bit (q y)) * total n (λ z. bit (r z))
total-triples n p q r =
    total-agree n _ _ (λ x l. total-agree n _ _ (λ y l. total-agree n _ _ (λ z l. bit-and (p x) (q y && r z)) ∙ total-scale n (bit (p x)) (λ z. bit (q y && r z))) ∙ total-scale n (bit (p x)) (λ y. total n (λ z. bit (q y && r z))))
    ∙ (total-scale-right n (total n (λ y. total n (λ z. bit (q y && r z)))) (λ x. bit (p x))
    ∙ (ap (λ (t : ℕ). total n (λ x. bit (p x)) * t) pairs ∙ sym (mul_assoc (total n (λ x. bit (p x))) (total n (λ y. bit (q y))) (total n (λ z. bit (r z))))))
  where
    pairs : total n (λ y. total n (λ z. bit (q y && r z))) ≡ total n (λ y. bit (q y)) * total n (λ z. bit (r z))
    pairs =
        total-agree n _ _ (λ y l. total-agree n _ _ (λ z l. bit-and (q y) (r z)) ∙ total-scale n (bit (q y)) (λ z. bit (r z)))
        ∙ total-scale-right n (total n (λ z. bit (r z))) (λ y. bit (q y))

-- of n numbers, one is t
pub count-one : (t n : ℕ) → t < n → total n (λ s. bit (eqb t s)) ≡ 1
unfolding total
count-one t zero h = absurd (omega arith)
count-one t (suc n) h = one (ltb t n) refl (count-one t n)
  where
    one : (b : Bool) → ltb t n ≡ b → (t < n → total n (λ s. bit (eqb t s)) ≡ 1) → total n (λ s. bit (eqb t s)) + bit (eqb t n) ≡ 1
    one true e before = rw (before (ltb-true t n e), ne_eqb t n (λ same. omega (arith, same, ltb-true t n e)))
    one false e before =
        let last : t ≡ n = omega (arith, ltb-false t n e) in
        rw (total-none n (λ s. bit (eqb t s)) (λ s l. ap bit (ne_eqb t s (λ same. omega (arith, same, l, last)))), eq-eqb t n last)

-- the numbers from a on and before b
module _ (a b : ℕ) where
  pub count-inside : (n : ℕ) → n ≤ b → total n (λ g. bit (ltb g b && leb a g)) ≡ n - a
  unfolding total
  count-inside zero h = omega arith
  count-inside (suc n) h = rw (count-inside n (omega arith), lt-ltb n b (omega arith)) (one (leb a n) refl)
    where
      one : (t : Bool) → leb a n ≡ t → n - a + bit t ≡ suc n - a
      one true e = omega (arith, leb-true a n e)
      one false e = omega (arith, leb-false a n e)

  count-more : (k : ℕ) → total (b + k) (λ g. bit (ltb g b && leb a g)) ≡ b - a
  unfolding total
  count-more zero = rw (add-zero b) (count-inside b (omega arith))
  count-more (suc k) = rw (add-suc b k, count-more k, le-ltb (b + k) b (omega arith)) (add-zero (b - a))

  pub count_past : (n : ℕ) → b ≤ n → total n (λ g. bit (ltb g b && leb a g)) ≡ b - a
  count_past n h =
      let e : b + (n - b) ≡ n = omega arith in
      rw e at (count-more (n - b))
