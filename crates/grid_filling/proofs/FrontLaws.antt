-- The front of a slice: the numbers that pass a test kept one by one, and read.
use mathlib.Core.Path.{◌≡◌, refl, sym, ap, ◌∙◌}
use mathlib.Core.Bool.{Bool, true, false, cond}
use mathlib.Core.List.{List, [], ◌∷◌, ◌++◌, append-nil}
use Prim.Native.Nat.{ℕ, ◌+◌, ◌≤◌, ◌<◌}
use native.Mathlib.Omega.{arith}
use lib.ListN.{length, get_or, take, set, length-append}
use lib.Seq.{take_at, take-length, set_at, append_snoc, length-take-le}
use Rattle.std.specs.Int.{from_bool}
use Rattle.ground.specs.Numbers.{bit, those}
use Rattle.grid_filling.specs.Filling.{Front}
use Rattle.ground.proofs.NumberLaws.{those-next, those-length}

module _ {w : List ℕ} {n : ℕ} {xs : List ℕ} (a : Front w n xs) where
  pub front-taken : take n w ≡ xs
  front-taken = rw a.is (take_at xs a.rest n (sym a.count))

  pub front-counted : n ≡ length (take n w)
  front-counted = omega (arith, ap length front-taken, a.count)

  pub front-within : n ≤ length w
  front-within = omega (arith, a.count, ap length a.is, length-append xs a.rest)

  -- a number right behind the front, and the front with it if it is kept
  front-put : (b : ℕ) (t : Bool) → n < length w → Front (set w n b) (n + bit t) (xs ++ cond t (b ∷ []) [])
  front-put b t h = go a.rest a.is t
    where
      go : (r : List ℕ) → w ≡ xs ++ r → (t : Bool) → Front (set w n b) (n + bit t) (xs ++ cond t (b ∷ []) [])
      go [] e t = absurd (omega (arith, ap length e, length-append xs [], a.count))
      go (y ∷ r) e true =
          record {
            count = omega (arith, length-append xs (b ∷ []), a.count);
            rest = r;
            is = rw e (set_at xs y r b n (sym a.count) ∙ sym (append_snoc xs b r));
          }
      go (y ∷ r) e false =
          record {
            count = omega (arith, length-append xs [], a.count);
            rest = b ∷ r;
            is = rw (e, append-nil xs) (set_at xs y r b n (sym a.count));
          }

-- a bool as a number
pub bit-from : (t : Bool) → from_bool t ≡ bit t
bit-from true = refl
bit-from false = refl

-- the numbers of a list that pass a test, kept one by one
module _ (f : ℕ → Bool) (l w : List ℕ) where
  pub kept-none : Front w 0 (those f (take 0 l))
  unfolding those
  kept-none = record { count = refl; rest = w; is = refl }

module _ (f : ℕ → Bool) (l : List ℕ) (i : ℕ) {w : List ℕ} {n : ℕ} (a : Front w n (those f (take i l))) where
  -- no more are kept than are passed
  pub kept-few : i ≤ length l → n ≤ i
  kept-few h = omega (arith, a.count, those-length f (take i l), length-take-le i l h)

  pub kept-turn : {t : Bool} {k : ℕ} → i < length l → length l ≤ length w → t ≡ f (get_or l i 0) → k ≡ bit t → Front (set w n (get_or l i 0)) (n + k) (those f (take (i + 1) l))
  kept-turn h room e b = rw (b, e, those-next f l i h) (front-put a (get_or l i 0) (f (get_or l i 0)) (omega (arith, kept-few (omega arith))))

  pub kept-all : i ≡ length l → Front w n (those f l)
  kept-all e = rw (e, take-length l) at a
