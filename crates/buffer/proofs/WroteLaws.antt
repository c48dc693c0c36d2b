-- Lent slices: nothing, one number, and one list after another written at a place.
use mathlib.Core.Path.{◌≡◌, refl, sym, ap, ◌∙◌, subst}
use mathlib.Core.List.{List, [], ◌∷◌, ◌++◌, append_assoc}
use Prim.Native.Nat.{ℕ, ◌+◌, ◌≤◌, ◌<◌}
use native.Mathlib.Nat.{add-zero}
use native.Mathlib.Numerals.{add-one}
use native.Mathlib.Omega.{arith}
use lib.ListN.{length, take, drop, set, length-append, length-drop, take-append-drop}
use lib.Seq.{length-take-le, take_at, drop-append-add, drop-drop, set_split}
use Rattle.buffer.specs.Wrote.{Wrote}

pub wrote_none : (w : List ℕ) (at : ℕ) → at ≤ length w → Wrote w w at at []
wrote_none w at h = record { next = sym (add-zero at); room = h; is = sym (take-append-drop at w) }

pub wrote_one : (w : List ℕ) (at a : ℕ) → at < length w → Wrote w (set w at a) at (at + 1) (a ∷ [])
wrote_one w at a h = record { next = refl; room = omega arith; is = rw (add-one at) (set_split w at a h) }

-- the same list, said otherwise
pub wrote_as : {w w' : List ℕ} {at r : ℕ} {xs ys : List ℕ} → xs ≡ ys → Wrote w w' at r xs → Wrote w w' at r ys
wrote_as {w} {w'} {at} {r} e h = subst (Wrote w w' at r) e h

module _ {w w' : List ℕ} {at r : ℕ} {xs : List ℕ} (a : Wrote w w' at r xs) where
  front : length (take at w ++ xs) ≡ r
  front = omega (arith, length-append (take at w) xs, length-take-le at w (omega (arith, a.next, a.room)), a.next)

  front-is : w' ≡ (take at w ++ xs) ++ drop r w
  front-is = a.is ∙ sym (append_assoc (take at w) xs (drop r w))

  -- the slice keeps its length
  pub wrote-length : length w' ≡ length w
  wrote-length =
      omega (arith, ap length a.is, length-append (take at w) (xs ++ drop r w), length-append xs (drop r w), length-drop r w, length-take-le at w (omega (arith, a.next, a.room)), a.next, a.room)

  -- one list right after the other
  pub wrote_then : {w'' : List ℕ} {r' : ℕ} {ys : List ℕ} → Wrote w' w'' r r' ys → Wrote w w'' at r' (xs ++ ys)
  wrote_then {w''} {r'} {ys} b =
      let t : take r w' ≡ take at w ++ xs = rw front-is (take_at (take at w ++ xs) (drop r w) r front) in
      let u : drop r' w' ≡ drop r' w = rw (b.next, front-is) (ap (λ (k : ℕ). drop (k + length ys) ((take at w ++ xs) ++ drop r w)) (sym front) ∙ (drop-append-add (take at w ++ xs) (drop r w) (length ys) ∙ drop-drop (length ys) r w)) in
      let f : w'' ≡ (take at w ++ xs) ++ (ys ++ drop r' w) = rw (b.is, t, u) in
      record {
        next = omega (arith, a.next, b.next, length-append xs ys);
        room = omega (arith, b.room, wrote-length);
        is = f ∙ simp append_assoc;
      }

-- a list written right behind d
pub wrote-behind : {w w' : List ℕ} {at r : ℕ} {xs : List ℕ} (d t : List ℕ) → length d ≡ at → w ≡ d ++ t → Wrote w w' at r xs → w' ≡ d ++ (xs ++ drop (length xs) t)
wrote-behind {w} {w'} {at} {r} {xs} d t l e a =
    let k : r ≡ length d + length xs = omega (arith, a.next) in
    let f : take at w ≡ d = rw e (take_at d t at l) in
    let g : drop r w ≡ drop (length xs) t = rw (k, e) (drop-append-add d t (length xs)) in
    rw (a.is, f, g)

-- a list written at the front is the part up to the place after it
module _ {w w' : List ℕ} {r : ℕ} {xs : List ℕ} (a : Wrote w w' 0 r xs) where
  pub front-part : take r w' ≡ xs
  front-part = rw a.is (take_at xs (drop r w) r (omega (arith, a.next)))

  pub front-count : r ≡ length (take r w')
  front-count = omega (arith, ap length front-part, a.next)
