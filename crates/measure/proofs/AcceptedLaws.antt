-- What is known of a list that a call accepts, from what the call promises: the list is valid, the totals are its cell counts, the work
-- slice holds its index, and the buffer its listing.
use mathlib.Core.Path.{◌≡◌, sym, ◌∙◌, ap}
use mathlib.Core.List.{List, ◌++◌}
use Prim.Native.Nat.{ℕ, ◌*◌}
use lib.ListN.{length, drop}
use Rattle.lattice.specs.Cells.{Cells}
use Rattle.lattice.specs.Listing.{listing}
use Rattle.lattice_sums.specs.CornerSums.{totals_of}
use Rattle.lattice_sums.specs.declared.sums.Totals.{Totals}
use Rattle.job.specs.Job.{Job}
use Rattle.grid.specs.Grid.{index_of, Holds}
use Rattle.measure_intake.specs.Intake.{solid, measure_checked, measure_answer, measured_numbers, numbers_after, measure_numbers, work_after, MeasureAccepts, MeasureCall}
use Rattle.measure_intake.proofs.Refused.{answer-accepted, measure-decides, work-stored}
use Rattle.measure.proofs.Refused.{list-decides}
use Rattle.measure.specs.Answers.{list_checked, list_answer, list_numbers, listing_after, ListCall}
use Rattle.buffer.specs.Wrote.{in_front}
use Rattle.refusals.specs.Tests.{if_accepted}
use Rattle.lattice.proofs.ListingLaws.{length-listing}
use Rattle.refusals.specs.Refusals.{Checked}
use Rattle.std.specs.Prelude.{Ok}

-- an accepted list, with these totals and this work slice
pub record Accepted (job : Job) (t : Totals) (work' : List ℕ) : Type 0 where
  pub totals-are : t ≡ totals_of job.field (solid job)
  pub holds-index : Holds job work'

-- the numbers of checks that pass are the totals
passed-totals : {c : Checked} (n : ℕ) (s : Cells) {t : Totals} → measured_numbers (Ok t) ≡ numbers_after c n s → c ≡ Ok tt → t ≡ totals_of n s
unfolding measured_numbers
passed-totals n s e k = ap (λ m. m.totals) (e ∙ ap (λ c. numbers_after c n s) k)

-- the work slice that they leave holds the index
passed-holds : (job : Job) (work : List ℕ) {work' : List ℕ} → work' ≡ work_after job work → MeasureAccepts job (length work) → Holds job work'
passed-holds job work e a = record { valid = a.0; rest = drop (length (index_of job)) work; is = e ∙ work-stored job work a }

pub measure-accepted : {job : Job} {work work' : List ℕ} {t : Totals} → MeasureCall job work (Ok t) work' → Accepted job t work'
unfolding measure_answer measure_numbers
measure-accepted {job} {work} {work'} {t} call =
    let k = (answer-accepted (measure_checked job (length work)) job.field (solid job)).0 (t, sym call.answer) in
    record {
      totals-are = passed-totals job.field (solid job) call.numbers k;
      holds-index = passed-holds job work call.index ((measure-decides job (length work)).accepted.0 k);
    }

module _ {job : Job} {work buffer work' buffer' : List ℕ} {t : Totals} (call : ListCall job work buffer (Ok t) work' buffer') where
  open job use {field as F}

  passed : list_checked job (length work) (length buffer) ≡ Ok tt
  unfolding list_answer
  passed = (answer-accepted (list_checked job (length work) (length buffer)) F (solid job)).0 (t, sym call.answer)

  pub list-accepted : Accepted job t work'
  unfolding list_numbers
  list-accepted =
      let a = ((list-decides job (length work) (length buffer)).accepted.0 passed).0 in
      record {
        totals-are = passed-totals F (solid job) call.numbers passed;
        holds-index = passed-holds job work call.index a;
      }

  -- what the buffer holds then
  pub list-stored : buffer' ≡ listing F (solid job) ++ drop (7 * t.corners) buffer
  unfolding listing_after totals_of
  list-stored =
      call.listing
      ∙ ap (λ c. if_accepted c (λ r. buffer) (in_front (listing F (solid job)) buffer)) passed
      ∙ ap (λ n. listing F (solid job) ++ drop n buffer) (length-listing F (solid job) ∙ ap (λ n. 7 * n) (sym (ap (λ (t : Totals). t.corners) list-accepted.totals-are)))
