-- The whole records of any bytes: of bytes from a place on, of the first bytes, how many, and the bytes of what is read back.
-- Assumes nothing.
use mathlib.Core.Path.{◌≡◌, refl, sym, ◌∙◌, ap}
use mathlib.Core.Logic.{⊎_elim}
use mathlib.Core.List.{List, [], ◌∷◌}
use Prim.Native.Nat.{ℕ, zero, suc, ◌+◌, ◌*◌, ◌/◌, ◌%◌, ◌≤◌, ◌<◌}
use native.Mathlib.Nat.{zero-add, add-zero}
use native.Mathlib.Omega.{arith}
use lib.ListN.{length, get_or, take, drop, length-drop}
use lib.Seq.{slice, take_all, take-nil, get_or-drop, drop-drop}
use Rattle.ground.specs.Numbers.{Bytes}
use Rattle.ground.proofs.Tests.{less-or-not}
use Rattle.lattice.specs.Listing.{Corner, corner_record, bytes, read_back}

-- seven bytes, as a record
abbrev pub read_at : List ℕ → ℕ → Corner
read_at l at = record {
  x = get_or l at 0 + get_or l (at + 1) 0 * 256;
  y = get_or l (at + 2) 0 + get_or l (at + 3) 0 * 256;
  z = get_or l (at + 4) 0 + get_or l (at + 5) 0 * 256;
  pattern = get_or l (at + 6) 0;
}

read_back-short : (l : List ℕ) → length l < 7 → read_back l ≡ []
unfolding read_back
read_back-short [] h = refl
read_back-short (a ∷ []) h = refl
read_back-short (a ∷ b ∷ []) h = refl
read_back-short (a ∷ b ∷ c ∷ []) h = refl
read_back-short (a ∷ b ∷ c ∷ d ∷ []) h = refl
read_back-short (a ∷ b ∷ c ∷ d ∷ e ∷ []) h = refl
read_back-short (a ∷ b ∷ c ∷ d ∷ e ∷ f ∷ []) h = refl
read_back-short (a ∷ b ∷ c ∷ d ∷ e ∷ f ∷ g ∷ l) h = absurd (omega arith)

pub read_back-front : (l : List ℕ) → 7 ≤ length l → read_back l ≡ read_at l 0 ∷ read_back (drop 7 l)
unfolding read_back
read_back-front [] h = absurd (omega arith)
read_back-front (a ∷ []) h = absurd (omega arith)
read_back-front (a ∷ b ∷ []) h = absurd (omega arith)
read_back-front (a ∷ b ∷ c ∷ []) h = absurd (omega arith)
read_back-front (a ∷ b ∷ c ∷ d ∷ []) h = absurd (omega arith)
read_back-front (a ∷ b ∷ c ∷ d ∷ e ∷ []) h = absurd (omega arith)
read_back-front (a ∷ b ∷ c ∷ d ∷ e ∷ f ∷ []) h = absurd (omega arith)
read_back-front (a ∷ b ∷ c ∷ d ∷ e ∷ f ∷ g ∷ l) h = refl

module _ (l : List ℕ) (at : ℕ) where
  -- fewer than 7 bytes are left from there
  pub read_back-none : length l < at + 7 → read_back (drop at l) ≡ []
  read_back-none h = read_back-short (drop at l) (omega (arith, length-drop at l))

  pub read_back-more : at + 7 ≤ length l → read_back (drop at l) ≡ read_at l at ∷ read_back (drop (at + 7) l)
  read_back-more h =
      read_back-front (drop at l) (omega (arith, length-drop at l))
      ∙ simp (get_or-drop, drop-drop 7 at l, add-zero, zero-add)

pub read_back-drop : (k : ℕ) (l : List ℕ) → read_back (drop (7 * k) l) ≡ drop k (read_back l)
read_back-drop zero l = refl
read_back-drop (suc k) l = ⊎_elim short (whole (read_back-drop k (drop 7 l))) (less-or-not (length l) 7)
  where
    short : length l < 7 → read_back (drop (7 * suc k) l) ≡ drop (suc k) (read_back l)
    short h = rw (read_back-none l (7 * suc k) (omega arith), read_back-short l h)

    seven : 7 + 7 * k ≡ 7 * suc k
    seven = omega arith

    whole : read_back (drop (7 * k) (drop 7 l)) ≡ drop k (read_back (drop 7 l)) → 7 ≤ length l → read_back (drop (7 * suc k) l) ≡ drop (suc k) (read_back l)
    whole e h = rw (read_back-front l h, ← seven, ← drop-drop (7 * k) 7 l) e

pub seven-more : (k : ℕ) → 7 * suc k ≡ suc (suc (suc (suc (suc (suc (suc (7 * k)))))))
seven-more k = omega arith

pub read_back-take : (k : ℕ) (l : List ℕ) → read_back (take (7 * k) l) ≡ take k (read_back l)
unfolding read_back
read_back-take zero l = refl
read_back-take (suc k) [] = rw (take-nil {A = ℕ} (7 * suc k))
read_back-take (suc k) (a ∷ []) = rw (take_all (7 * suc k) (a ∷ []) (omega arith))
read_back-take (suc k) (a ∷ b ∷ []) = rw (take_all (7 * suc k) (a ∷ b ∷ []) (omega arith))
read_back-take (suc k) (a ∷ b ∷ c ∷ []) = rw (take_all (7 * suc k) (a ∷ b ∷ c ∷ []) (omega arith))
read_back-take (suc k) (a ∷ b ∷ c ∷ d ∷ []) = rw (take_all (7 * suc k) (a ∷ b ∷ c ∷ d ∷ []) (omega arith))
read_back-take (suc k) (a ∷ b ∷ c ∷ d ∷ e ∷ []) = rw (take_all (7 * suc k) (a ∷ b ∷ c ∷ d ∷ e ∷ []) (omega arith))
read_back-take (suc k) (a ∷ b ∷ c ∷ d ∷ e ∷ f ∷ []) = rw (take_all (7 * suc k) (a ∷ b ∷ c ∷ d ∷ e ∷ f ∷ []) (omega arith))
read_back-take (suc k) (a ∷ b ∷ c ∷ d ∷ e ∷ f ∷ g ∷ l) = rw (seven-more k, read_back-take k l)

-- the record of a number
pub read_back-at : (i : ℕ) (l : List ℕ) → i < length l / 7 → drop i (read_back l) ≡ read_at l (7 * i) ∷ drop (suc i) (read_back l)
read_back-at i l h =
    sym (read_back-drop i l) ∙ (read_back-more l (7 * i) (omega arith) ∙ ap (λ vs. read_at l (7 * i) ∷ vs) (rw seven (read_back-drop (suc i) l)))
  where
    seven : 7 * i + 7 ≡ 7 * suc i
    seven = omega arith

-- the records from number a up to number b are those of the bytes from 7 · a up to 7 · b
pub read_back-slice : (a b : ℕ) (l : List ℕ) → read_back (slice (7 * a) (7 * b) l) ≡ slice a b (read_back l)
read_back-slice a b l = rw (read_back-drop a (take (7 * b) l), read_back-take b l)

pub length-read_back : (l : List ℕ) → length (read_back l) ≡ length l / 7
unfolding read_back
length-read_back [] = omega arith
length-read_back (a ∷ []) = omega arith
length-read_back (a ∷ b ∷ []) = omega arith
length-read_back (a ∷ b ∷ c ∷ []) = omega arith
length-read_back (a ∷ b ∷ c ∷ d ∷ []) = omega arith
length-read_back (a ∷ b ∷ c ∷ d ∷ e ∷ []) = omega arith
length-read_back (a ∷ b ∷ c ∷ d ∷ e ∷ f ∷ []) = omega arith
length-read_back (a ∷ b ∷ c ∷ d ∷ e ∷ f ∷ g ∷ l) = omega (arith, length-read_back l)

-- ---- the bytes of what is read back
low : (a b : ℕ) → a < 256 → (a + b * 256) % 256 ≡ a
low a b h = omega arith

high : (a b : ℕ) → a < 256 → (a + b * 256) / 256 ≡ b
high a b h = omega arith

-- whole records are stored as they were
pub bytes-read_back : (l : List ℕ) → Bytes l → bytes (read_back l) ≡ take (7 * length (read_back l)) l
unfolding read_back bytes corner_record
bytes-read_back [] h = refl
bytes-read_back (a ∷ []) h = refl
bytes-read_back (a ∷ b ∷ []) h = refl
bytes-read_back (a ∷ b ∷ c ∷ []) h = refl
bytes-read_back (a ∷ b ∷ c ∷ d ∷ []) h = refl
bytes-read_back (a ∷ b ∷ c ∷ d ∷ e ∷ []) h = refl
bytes-read_back (a ∷ b ∷ c ∷ d ∷ e ∷ f ∷ []) h = refl
bytes-read_back (a ∷ b ∷ c ∷ d ∷ e ∷ f ∷ g ∷ l) h =
    rw (seven-more (length (read_back l)), low a b (h 0), high a b (h 0), low c d (h 2), high c d (h 2), low e f (h 4), high e f (h 4), bytes-read_back l (λ i. h (suc (suc (suc (suc (suc (suc (suc i)))))))))
