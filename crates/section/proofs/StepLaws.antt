-- The record at a place and the place after it, and what a reader meets: the records in order, each once, then done for ever.
-- Assumes nothing.
use mathlib.Core.Path.{◌≡◌, refl, ◌∙◌, ap}
use mathlib.Core.Logic.{⊎_elim}
use Rattle.std.specs.Prelude.{Option, None, Some}
use Rattle.std.specs.List.{slice_range}
use Rattle.std.proofs.lemmas.Slice.{between_to_end}
use mathlib.Core.List.{List}
use Prim.Native.Nat.{ℕ, zero, suc, ◌+◌, ◌*◌, ◌≤◌, ◌<◌}
use native.Mathlib.Numerals.{add-one}
use native.Mathlib.Omega.{arith}
use lib.ListN.{length, get_or, drop}
use lib.Seq.{drop-drop}
use Rattle.ground.proofs.Tests.{less-or-not}
use Rattle.lattice.specs.Listing.{read_back}
use Rattle.section.specs.declared.Corner.{Corner as Found}
use Rattle.section.specs.Section.{found, first_step, step_from, past, after_at, stepped}
use Rattle.section.proofs.RecordLaws.{read_at, read_back-front, read_back-none, read_back-more}

-- ---- at a place
module _ (l : List ℕ) (at : ℕ) where
  pub step_from-done : length l < at + 7 → None ≡ step_from l at
  unfolding step_from first_step
  step_from-done h = rw (read_back-none l at h)

  step_from-found : at + 7 ≤ length l → step_from l at ≡ Some (found (read_at l at))
  unfolding step_from first_step
  step_from-found h = rw (read_back-more l at h)

  -- the same, by the bytes from the place on
  pub step_from-read : {s : List ℕ} → s ≡ slice_range l at (length l) → 7 ≤ length s → {x y z : ℕ} → x ≡ get_or s 0 0 + get_or s 1 0 * 256 → y ≡ get_or s 2 0 + get_or s 3 0 * 256 → z ≡ get_or s 4 0 + get_or s 5 0 * 256 → Some (record { x = x; y = y; z = z; pattern = get_or s 6 0 }) ≡ step_from l at
  unfolding step_from first_step
  step_from-read {s} e h ex ey ez = rw (← (e ∙ between_to_end l at (length l) (omega arith)), read_back-front s h, ex, ey, ez)

  pub after_at-done : length l < at + 7 → at ≡ after_at l at
  unfolding after_at past
  after_at-done h = rw (read_back-none l at h)

  pub after_at-found : at + 7 ≤ length l → at + 7 ≡ after_at l at
  unfolding after_at past
  after_at-found h = rw (read_back-more l at h)

  -- a record is met only where a whole one is left, and then the reader moves by its bytes
  pub step_from-whole : {c : Found} → Some c ≡ step_from l at → at + 7 ≤ length l
  step_from-whole e = ⊎_elim (λ h. absurd (let d = step_from-done h in cc)) (λ h. h) (less-or-not (length l) (at + 7))

  pub step_from-moves : {c : Found} → Some c ≡ step_from l at → at + 7 ≡ after_at l at
  step_from-moves e = after_at-found (step_from-whole e)

  -- none is met only where the reader stays
  pub step_from-stays : None ≡ step_from l at → at ≡ after_at l at
  step_from-stays e =
      ⊎_elim after_at-done (λ h. absurd (let d = step_from-found h in cc)) (less-or-not (length l) (at + 7))

-- ---- one step after another
-- a step leaves all records but the first
pub read_back-after : (l : List ℕ) (at : ℕ) → read_back (drop (after_at l at) l) ≡ drop 1 (read_back (drop at l))
read_back-after l at = ⊎_elim done found (less-or-not (length l) (at + 7))
  where
    done : length l < at + 7 → read_back (drop (after_at l at) l) ≡ drop 1 (read_back (drop at l))
    done h = rw (← after_at-done l at h, read_back-none l at h)

    found : at + 7 ≤ length l → read_back (drop (after_at l at) l) ≡ drop 1 (read_back (drop at l))
    found h = rw (← after_at-found l at h, read_back-more l at h)

-- what a reader meets one step on is the second record from its place
pub step_from-after : (l : List ℕ) (at : ℕ) → step_from l (after_at l at) ≡ first_step (drop 1 (read_back (drop at l)))
unfolding step_from
step_from-after l at = ap first_step (read_back-after l at)

-- after k steps the first k records are passed
read_back-stepped : (l : List ℕ) (k : ℕ) → read_back (drop (stepped l k) l) ≡ drop k (read_back l)
unfolding stepped
read_back-stepped l zero = refl
read_back-stepped l (suc k) = read_back-after l (stepped l k) ∙ (ap (drop 1) (read_back-stepped l k) ∙ rw (drop-drop 1 k (read_back l), add-one k))

-- a reader that is opened at the first byte has, after k steps, the record of number k, counted from 0; past the last whole record it is
-- done, however many steps follow
pub step_from-stepped : (l : List ℕ) (k : ℕ) → step_from l (stepped l k) ≡ first_step (drop k (read_back l))
unfolding step_from
step_from-stepped l k = ap first_step (read_back-stepped l k)

-- the same, as a loop of steps comes to it
module _ (l : List ℕ) where
  pub stepped-none : 0 ≡ stepped l 0
  unfolding stepped
  stepped-none = refl

  pub stepped-more : (i : ℕ) {at r : ℕ} → at ≡ stepped l i → r ≡ after_at l at → r ≡ stepped l (i + 1)
  unfolding stepped
  stepped-more i a e = rw (add-one i) (e ∙ ap (after_at l) a)

  pub stepped-met : (i k : ℕ) {at : ℕ} {r : Option Found} → at ≡ stepped l i → i ≡ k → r ≡ step_from l at → r ≡ first_step (drop k (read_back l))
  stepped-met i k a e s = s ∙ (ap (step_from l) (a ∙ ap (stepped l) e) ∙ step_from-stepped l k)
