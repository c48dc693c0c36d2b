-- The numbers of a list that pass a test, written to the front of a slice one by one.
use Rattle.std.proofs.Common.{◌≡◌, ℕ, ◌+◌, ◌<◌, ◌≤◌, Bool, true, false, List, length, get_or, take, set, arith}
use lib.Seq.{take-length, length-take-le}
use Rattle.ground.specs.Numbers.{those}
use Rattle.buffer.specs.Wrote.{Wrote}
use Rattle.buffer.proofs.WroteLaws.{wrote_none, wrote_one, wrote-length, wrote_then}
use Rattle.ground.proofs.NumberLaws.{those-next, those-length}

module _ (f : ℕ → Bool) (l w : List ℕ) where
  pub kept-none : Wrote w w 0 0 (those f (take 0 l))
  unfolding those
  kept-none = wrote_none w 0 (omega arith)

  module _ (i : ℕ) {b : List ℕ} {o : ℕ} (h : i < length l) (a : Wrote w b 0 o (those f (take i l))) where
    pub kept-room : length l ≤ length w → o < length b
    kept-room room = omega (arith, a.next, wrote-length a, those-length f (take i l), length-take-most)
      where
        length-take-most : length (take i l) ≤ i
        length-take-most = omega (arith, length-take-le i l (omega arith))

    pub kept-yes : length l ≤ length w → f (get_or l i 0) ≡ true → Wrote w (set b o (get_or l i 0)) 0 (o + 1) (those f (take (i + 1) l))
    kept-yes room e = rw (those-next f l i h, e) (wrote_then a (wrote_one b o (get_or l i 0) (kept-room room)))

    pub kept-no : f (get_or l i 0) ≡ false → Wrote w b 0 o (those f (take (i + 1) l))
    kept-no e = rw (those-next f l i h, e) (wrote_then a (wrote_none b o (omega (arith, a.room, wrote-length a))))

  pub kept-all : {b : List ℕ} {o : ℕ} (i : ℕ) → i ≡ length l → Wrote w b 0 o (those f (take i l)) → Wrote w b 0 o (those f l)
  kept-all i e a = rw (e, take-length l) at a
