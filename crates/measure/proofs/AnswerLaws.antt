-- How the answers of the two calls follow from the intake and the sweep.
use mathlib.Core.Path.{◌≡◌, refl, sym, ◌∙◌, ap, subst}
use mathlib.Core.List.{List, [], ◌∷◌, ◌++◌}
use Prim.Native.Nat.{ℕ, ◌*◌, ◌/◌, ◌≤◌, ◌<◌}
use native.Mathlib.Omega.{arith}
use lib.ListN.{length, drop}
use Rattle.job.specs.Job.{Job}
use Rattle.lattice.specs.Cells.{Cells, Within}
use Rattle.lattice.specs.Listing.{corners, corner_count, listing}
use Rattle.lattice_sums.specs.CornerSums.{sums_of, totals_of, Whole}
use Rattle.lattice_sums.specs.declared.sums.CornerSums.{CornerSums}
use Rattle.lattice_sums.specs.declared.sums.Totals.{Totals}
use Rattle.lattice_sums.proofs.CornerSumLaws.{sums-whole, whole_same}
use Rattle.lattice.proofs.ListingLaws.{length-bytes, length-corners}
use Rattle.refusals.specs.Tests.{if_accepted, first_of}
use Rattle.refusals.specs.declared.Refusal.{Refusal}
use Rattle.refusals.specs.declared.Refusal.TheVariants.{ShortListing}
use Rattle.refusals.proofs.FirstOf.{first-passed, first-stopped}
use Rattle.sweep_tally.specs.Found.{state, found}
use Rattle.sweep_tally.proofs.Result.{found-sums, found-bytes}
use Rattle.measure_intake.specs.Intake.{solid, measure_tests, answer_of, measured_numbers, IndexCall, Measured}
use Rattle.measure_intake.proofs.IntakeLaws.{answer-numbers}
use Rattle.refusals.proofs.OneMore.{too_short, long-enough}
use Rattle.measure.specs.Answers.{short_listing, list_tests, list_checked, list_answer, list_numbers, listing_after, CornersListed, ListCall}
use Rattle.buffer.specs.Wrote.{in_front}
use Rattle.refusals.specs.Refusals.{Checked}
use Rattle.std.specs.Prelude.{Ok, Err}

-- ---- the sums of a sweep are the totals
module _ (n : ℕ) (s : Cells) (within : Within n s) where
  pub swept-whole : {t : CornerSums} → t ≡ sums_of (corners n s) → Whole t (totals_of n s)
  swept-whole e = subst (λ t. Whole t (totals_of n s)) (sym e) (sums-whole n s within)

  pub swept-totals : {t : CornerSums} {r : Totals} → t ≡ sums_of (corners n s) → Whole t r → r ≡ totals_of n s
  swept-totals e h = whole_same h (swept-whole e)

-- what a sweep found, apart
pub swept-sums : {t : CornerSums} {after : List ℕ} (before : List ℕ) (n : ℕ) (s : Cells) → state t after ≡ found (state (sums_of []) before) (corners n s) → t ≡ sums_of (corners n s)
swept-sums before n s e = ap (λ f. f.sums) e ∙ found-sums (corners n s) before

pub swept-listing : {t : CornerSums} {after : List ℕ} (before : List ℕ) (n : ℕ) (s : Cells) → 7 * corner_count n s ≤ length before → state t after ≡ found (state (sums_of []) before) (corners n s)
    → after ≡ in_front (listing n s) before
swept-listing before n s h e =
    ap (λ f. f.bytes) e
    ∙ found-bytes (corners n s) before (subst (λ (k : ℕ). 7 * k ≤ length before) (sym (length-corners n s)) h)
    ∙ ap (λ k. listing n s ++ drop k before) (sym (length-bytes (corners n s)))

-- ---- a listing buffer that is too short or long enough
module _ (n : ℕ) (s : Cells) (before : List ℕ) where
  -- the buffer after these checks
  left : Checked → List ℕ
  left c = if_accepted c (λ r. before) (in_front (listing n s) before)

  pub short-listing : {c : ℕ} → c ≡ corner_count n s → length before / 7 < c → CornersListed n s before (Err (ShortListing c)) before
  unfolding left first_of
  short-listing e h =
      let l = sym (too_short [] (length before) (7 * corner_count n s) (ShortListing (corner_count n s)) refl (omega (arith, e))) in
      record { answer = ap (λ c. Err (ShortListing c)) e ∙ ap (λ c. answer_of c n s) l; listing = ap left l }

  pub long-listing : {t : Totals} {after : List ℕ} → 7 * corner_count n s ≤ length before → t ≡ totals_of n s → after ≡ in_front (listing n s) before → CornersListed n s before (Ok t) after
  unfolding left first_of
  long-listing h e k =
      let l = sym (long-enough [] (length before) (7 * corner_count n s) (ShortListing (corner_count n s)) refl h) in
      record { answer = ap Ok e ∙ ap (λ c. answer_of c n s) l; listing = k ∙ ap left l }

pub totals-corners : (n : ℕ) (s : Cells) {t : Totals} → t ≡ totals_of n s → t.corners ≡ corner_count n s
unfolding totals_of
totals-corners n s e = ap (λ (t : Totals). t.corners) e

-- ---- the listing call, after the intake
module _ {job : Job} {work work' : List ℕ} {c : Checked} (call : IndexCall job work c work') (buffer : List ℕ) where
  open job use {field as F}

  list-is : {d : Checked} {m : Measured} {buffer' : List ℕ} → d ≡ list_checked job (length work) (length buffer)
      → m ≡ answer_of d F (solid job) → buffer' ≡ left F (solid job) buffer d → ListCall job work buffer m work' buffer'
  unfolding list_answer list_numbers listing_after left
  list-is h e k =
      let a = e ∙ ap (λ c. answer_of c F (solid job)) h in
      record {
        answer = a;
        numbers = ap measured_numbers a ∙ answer-numbers (list_checked job (length work) (length buffer)) F (solid job);
        index = call.index;
        listing = k ∙ ap (left F (solid job) buffer) h;
      }

  pub refused-list : (r : Refusal) → c ≡ Err r → ListCall job work buffer (Err r) work' buffer
  unfolding list_tests left
  refused-list r k =
      list-is (sym (first-stopped (short_listing F (solid job) (length buffer) ∷ []) (measure_tests job (length work)) (sym call.answer ∙ k))) refl refl

  pub accepted-list : {m : Measured} {buffer' : List ℕ} → c ≡ Ok tt → CornersListed F (solid job) buffer m buffer' → ListCall job work buffer m work' buffer'
  unfolding list_tests left
  accepted-list k l =
      list-is (sym (first-passed (short_listing F (solid job) (length buffer) ∷ []) (measure_tests job (length work)) (sym call.answer ∙ k))) l.answer l.listing
