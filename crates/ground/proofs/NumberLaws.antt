-- Lists of numbers: counting up, those that pass a test, bounds and membership.
use mathlib.Core.Path.{◌≡◌, refl, sym, ap, ◌∙◌}
use mathlib.Core.Bool.{Bool, true, false, cond, ◌&&◌, ◌||◌, or_assoc, or-true, or-false}
use mathlib.Core.List.{List, [], ◌∷◌, ◌++◌}
use Prim.Native.Nat.{ℕ, zero, suc, ◌+◌, ◌-◌, ◌≤◌, ◌<◌}
use native.Mathlib.Nat.{add-zero, add-suc, le_refl}
use native.Mathlib.Numerals.{add-one}
use native.Mathlib.Omega.{arith}
use lib.Dec.{eqb, ltb}
use lib.ListN.{length, get_or, take, drop, length-append, take-append-drop}
use lib.Seq.{take-suc, take_all, take-append-le}
use borrow.Author.Tests.{ltb-true, ltb-false, eqb-true, eqb-false, lt-ltb, le-ltb, eq-eqb}
use Rattle.ground.specs.Sums.{total, join}
use Rattle.ground.specs.Numbers.{bit, up_to, those, AllBelow, has}
use Rattle.ground.proofs.Bits.{bit_length}

-- ---- counting up

pub up_to-length : (n : ℕ) → length (up_to n) ≡ n
unfolding up_to
up_to-length zero = refl
up_to-length (suc n) = omega (arith, length-append (up_to n) (n ∷ []), up_to-length n)

up_to-more : (n k : ℕ) → take n (up_to (n + k)) ≡ up_to n
unfolding up_to
up_to-more n zero = rw (add-zero n) (take_all n (up_to n) (omega (arith, up_to-length n)))
up_to-more n (suc k) = rw (add-suc n k, take-append-le n (up_to (n + k)) ((n + k) ∷ []) (omega (arith, up_to-length (n + k)))) (up_to-more n k)

pub up_to-front : (n m : ℕ) → n ≤ m → take n (up_to m) ≡ up_to n
up_to-front n m h =
    let e : n + (m - n) ≡ m = omega arith in
    rw e at (up_to-more n (m - n))

-- ---- those that pass a test

module _ (f : ℕ → Bool) where
  those-append : (l m : List ℕ) → those f (l ++ m) ≡ those f l ++ those f m
  unfolding those
  those-append [] m = refl
  those-append (a ∷ l) m = rw (those-append l m) (one (f a))
    where
      one : (b : Bool) → cond b (a ∷ (those f l ++ those f m)) (those f l ++ those f m) ≡ cond b (a ∷ those f l) (those f l) ++ those f m
      one true = refl
      one false = refl

  -- one number more
  pub those-next : (l : List ℕ) (j : ℕ) → j < length l → those f (take (j + 1) l) ≡ those f (take j l) ++ cond (f (get_or l j 0)) (get_or l j 0 ∷ []) []
  unfolding those
  those-next l j h = rw (add-one j, take-suc l j 0 h) (those-append (take j l) (get_or l j 0 ∷ []))

  pub those-up : (n : ℕ) → those f (up_to (n + 1)) ≡ those f (up_to n) ++ cond (f n) (n ∷ []) []
  unfolding those up_to
  those-up n = rw (add-one n) (those-append (up_to n) (n ∷ []))

  pub those-length : (l : List ℕ) → length (those f l) ≤ length l
  unfolding those
  those-length [] = le_refl 0
  those-length (a ∷ l) = one (f a) (those-length l)
    where
      one : (b : Bool) → length (those f l) ≤ length l → length (cond b (a ∷ those f l) (those f l)) ≤ suc (length l)
      one true h = omega arith
      one false h = omega arith

  pub those-front : (l : List ℕ) (j : ℕ) → length (those f (take j l)) ≤ length (those f l)
  those-front l j =
      omega (arith, ap (λ (m : List ℕ). length (those f m)) (take-append-drop j l), ap length (those-append (take j l) (drop j l)), length-append (those f (take j l)) (those f (drop j l)))

  -- two tests, one after the other
  pub those-those : (g : ℕ → Bool) (l : List ℕ) → those g (those f l) ≡ those (λ a. f a && g a) l
  unfolding those
  those-those g [] = refl
  those-those g (a ∷ l) = one (f a) (those-those g l)
    where
      one : (b : Bool) → those g (those f l) ≡ those (λ a. f a && g a) l → those g (cond b (a ∷ those f l) (those f l)) ≡ cond (b && g a) (a ∷ those (λ a. f a && g a) l) (those (λ a. f a && g a) l)
      one true h = rw h
      one false h = h

-- how many pass a test
pub those-count : (f : ℕ → Bool) (n : ℕ) → length (those f (up_to n)) ≡ total n (λ i. bit (f i))
unfolding up_to those total
those-count f zero = refl
those-count f (suc n) =
    omega (arith, ap length (those-append f (up_to n) (n ∷ [])), length-append (those f (up_to n)) (those f (n ∷ [])), those-count f n, bit_length (f n) n)

-- tests that agree below n are passed by the same numbers below n
pub those-agree : (f g : ℕ → Bool) (n : ℕ) → ((i : ℕ) → i < n → f i ≡ g i) → those f (up_to n) ≡ those g (up_to n)
unfolding up_to those
those-agree f g zero h = refl
those-agree f g (suc n) h =
    rw (those-append f (up_to n) (n ∷ []), those-append g (up_to n) (n ∷ []), those-agree f g n (λ i l. h i (omega arith)), h n (omega arith))

-- ---- numbers below a bound

module _ (n : ℕ) where
  below-append : (l m : List ℕ) → AllBelow n l → AllBelow n m → AllBelow n (l ++ m)
  unfolding AllBelow
  below-append [] m h k = k
  below-append (a ∷ l) m h k = (h.0, below-append l m h.1 k)

  below_up : (m : ℕ) → m ≤ n → AllBelow n (up_to m)
  unfolding AllBelow up_to
  below_up zero h = tt
  below_up (suc m) h = below-append (up_to m) (m ∷ []) (below_up m (omega arith)) (omega arith, tt)

  pub below-those : (f : ℕ → Bool) (l : List ℕ) → AllBelow n l → AllBelow n (those f l)
  unfolding AllBelow those
  below-those f [] h = tt
  below-those f (a ∷ l) h = one (f a) (below-those f l h.1)
    where
      one : (b : Bool) → AllBelow n (those f l) → AllBelow n (cond b (a ∷ those f l) (those f l))
      one true k = (h.0, k)
      one false k = k

  pub below_at : (l : List ℕ) → AllBelow n l → (i : ℕ) → i < length l → get_or l i 0 < n
  unfolding AllBelow
  below_at [] h i k = absurd (omega arith)
  below_at (a ∷ l) h zero k = h.0
  below_at (a ∷ l) h (suc i) k = below_at l h.1 i (omega arith)

  pub below-up_to : AllBelow n (up_to n)
  below-up_to = below_up n (le_refl n)

-- ---- membership

module _ (a : ℕ) where
  has-append : (l m : List ℕ) → has (l ++ m) a ≡ (has l a || has m a)
  unfolding has
  has-append [] m = refl
  has-append (b ∷ l) m = rw (has-append l m) (sym (or_assoc (eqb a b) (has l a) (has m a)))

  -- a member of one list of a series is a member of the series joined, and the other way round
  pub has_join : (f : ℕ → List ℕ) (n g : ℕ) → g < n → has (f g) a ≡ true → has (join n f) a ≡ true
  unfolding join
  has_join f zero g h e = absurd (omega arith)
  has_join f (suc n) g h e = has-append (join n f) (f n) ∙ one (ltb g n) refl (λ l. has_join f n g l e)
    where
      one : (b : Bool) → ltb g n ≡ b → (g < n → has (join n f) a ≡ true) → (has (join n f) a || has (f n) a) ≡ true
      one true t before = rw (before (ltb-true g n t))
      one false t before =
          let last : n ≡ g = omega (arith, ltb-false g n t) in
          rw (last, e) (or-true (has (join g f) a))

  pub has-join-none : (f : ℕ → List ℕ) (n : ℕ) → ((g : ℕ) → g < n → has (f g) a ≡ false) → has (join n f) a ≡ false
  unfolding join has
  has-join-none f zero h = refl
  has-join-none f (suc n) h =
      has-append (join n f) (f n) ∙ rw (has-join-none f n (λ g l. h g (omega arith)), h n (omega arith))

  -- a number as a list, or nothing
  has_same : (b : Bool) → has (cond b (a ∷ []) []) a ≡ b
  unfolding has
  has_same true = rw (eq-eqb a a refl)
  has_same false = refl

  has_other : (n : ℕ) (b : Bool) → eqb a n ≡ false → has (cond b (n ∷ []) []) a ≡ false
  unfolding has
  has_other n true e = rw e
  has_other n false e = refl

  -- the numbers below n that pass a test
  pub has-those : (f : ℕ → Bool) (n : ℕ) → has (those f (up_to n)) a ≡ (ltb a n && f a)
  unfolding has those up_to
  has-those f zero = rw (le-ltb a 0 (omega arith))
  has-those f (suc n) =
      ap (λ l. has l a) (those-append f (up_to n) (n ∷ []))
      ∙ (has-append (those f (up_to n)) (those f (n ∷ []))
      ∙ rw (has-those f n) (one (eqb a n) refl))
    where
      one : (b : Bool) → eqb a n ≡ b → (ltb a n && f a || has (cond (f n) (n ∷ []) []) a) ≡ (ltb a (suc n) && f a)
      one true e =
          let same : n ≡ a = sym (eqb-true a n e) in
          rw (same, le-ltb a a (omega arith), lt-ltb a (suc a) (omega arith)) (has_same (f a))
      one false e = rw (has_other n (f n) e) (or-false (ltb a n && f a) ∙ two (ltb a n) refl)
        where
          two : (b : Bool) → ltb a n ≡ b → (ltb a n && f a) ≡ (ltb a (suc n) && f a)
          two true t = rw (t, lt-ltb a (suc n) (omega (arith, ltb-true a n t)))
          two false t = rw (t, le-ltb a (suc n) (omega (arith, ltb-false a n t, eqb-false a n e)))
