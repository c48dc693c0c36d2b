-- When listing accepts a list and when it refuses it, each exactly: docs/SCOPE.md, 'When a job is refused'. The statements speak of a
-- call by what it promises. Assumes nothing.
use mathlib.Core.Path.{◌≡◌, sym, ap, ◌∙◌, subst}
use mathlib.Core.List.{List}
use mathlib.Core.Logic.{◌↔◌}
use Prim.Native.Nat.{ℕ, ◌*◌, ◌≤◌}
use lib.ListN.{length}
use Rattle.job.specs.Job.{Job}
use Rattle.lattice.specs.Listing.{corner_count, listing}
use Rattle.lattice_sums.specs.CornerSums.{totals_of}
use Rattle.lattice_sums.specs.declared.sums.Totals.{Totals}
use Rattle.refusals.specs.declared.Refusal.{Refusal}
use Rattle.refusals.specs.declared.Refusal.TheVariants.{ShortListing}
use Rattle.grid.specs.Grid.{index_of}
use Rattle.measure_intake.specs.Intake.{solid, answer_of, MeasureAccepts, MeasureRefuses, Measured}
use Rattle.refusals.specs.Deciding.{Decides}
use Rattle.refusals.proofs.Deciding.{decides-more}
use Rattle.measure_intake.proofs.Refused.{answer-refused, answer-accepted, measure-decides, work-stored, work-kept}
use Rattle.measure.specs.Answers.{list_tests, list_checked, list_answer, listing_after, ListCall, ListAccepts, ListRefuses}
use Rattle.buffer.specs.Wrote.{in_front}
use Rattle.refusals.specs.Tests.{if_accepted}
use Rattle.std.specs.Prelude.{Ok, Err}

-- ---- the checks of listing
module _ (job : Job) (entries room : ℕ) where
  open job use {field as F}

  pub list-decides : Decides (list_tests job entries room) (ListAccepts job entries room) (ListRefuses job entries room)
  unfolding list_tests
  list-decides = let n = corner_count F (solid job) in decides-more (measure-decides job entries) room (7 * n) (ShortListing n)

  -- the listing of an accepted list fits the buffer
  pub listing-fits : {t : Totals} → Ok t ≡ list_answer job entries room → 7 * t.corners ≤ room
  unfolding list_answer totals_of
  listing-fits {t} e =
      let k = (answer-accepted (list_checked job entries room) F (solid job)).0 (t, sym e) in
      let same : Ok t ≡ Ok (totals_of F (solid job)) = e ∙ ap (λ c. answer_of c F (solid job)) k in
      let u : t ≡ totals_of F (solid job) = cc in
      subst (λ (n : ℕ). 7 * n ≤ room) (sym (ap (λ (t : Totals). t.corners) u)) (list-decides.accepted.0 k).1

-- ---- a listing call
module _ {job : Job} {work buffer work' buffer' : List ℕ} {m : Measured} (call : ListCall job work buffer m work' buffer') where
  open job use {field as F}

  -- a quote is given if and only if the list is valid and both lent slices are long enough
  pub list-accepts : ((t : Totals) × (m ≡ Ok t)) ↔ ListAccepts job (length work) (length buffer)
  unfolding list_answer
  list-accepts =
      let answer = answer-accepted (list_checked job (length work) (length buffer)) F (solid job) in
      let h = (list-decides job (length work) (length buffer)).accepted in
      (λ q. h.0 (answer.0 (q.0, sym call.answer ∙ q.1)), λ v. let q = answer.1 (h.1 v) in (q.0, call.answer ∙ q.1))

  -- a refusal is given if and only if its condition is the first that holds
  pub list-refuses : (r : Refusal) → (m ≡ Err r) ↔ ListRefuses job (length work) (length buffer) r
  unfolding list_answer
  list-refuses r =
      let answer = answer-refused (list_checked job (length work) (length buffer)) F (solid job) r in
      let h = (list-decides job (length work) (length buffer)).refused r in
      (λ e. h.0 (answer.0 (sym call.answer ∙ e)), λ v. call.answer ∙ answer.1 (h.1 v))

  -- a refusal leaves the buffer as it was
  pub list-refused-keeps : (r : Refusal) → m ≡ Err r → buffer' ≡ buffer
  unfolding list_answer listing_after
  list-refused-keeps r e =
      let k = (answer-refused (list_checked job (length work) (length buffer)) F (solid job) r).0 (sym call.answer ∙ e) in
      call.listing ∙ ap (λ c. if_accepted c (λ r. buffer) (in_front (listing F (solid job)) buffer)) k

  -- and the work slice too, but where measuring accepts, as at 11: then it holds the finished index
  pub list-work-kept : (r : Refusal) → MeasureRefuses job (length work) r → work' ≡ work
  list-work-kept r h = call.index ∙ work-kept job work r h

  pub list-work-done : MeasureAccepts job (length work) → work' ≡ in_front (index_of job) work
  list-work-done h = call.index ∙ work-stored job work h
