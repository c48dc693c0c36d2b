-- How the promises follow from the checks, the length of the work slice and the index, and what is known of an accepted list.
use mathlib.Core.Path.{◌≡◌, refl, sym, ◌∙◌, ap}
use mathlib.Core.List.{List, [], ◌∷◌}
use Prim.Native.Nat.{ℕ, ◌≤◌, ◌<◌}
use native.Mathlib.Omega.{arith}
use lib.ListN.{length, drop}
use Rattle.lattice.specs.Cells.{Cells}
use Rattle.lattice_sums.specs.CornerSums.{totals_of}
use Rattle.lattice_sums.specs.declared.sums.Totals.{Totals}
use Rattle.job.specs.Job.{Job, Valid}
use Rattle.job.specs.Checking.{tests, checked}
use Rattle.refusals.specs.declared.Refusal.{Refusal}
use Rattle.refusals.specs.declared.Refusal.TheVariants.{ShortWork}
use Rattle.job.proofs.Conditions.{accepted-valid}
use Rattle.refusals.proofs.FirstOf.{first-stopped, checks}
use Rattle.grid.specs.Grid.{index_of, need, Holds}
use Rattle.measure_intake.specs.Intake.{solid, short_work, measure_tests, measure_checked, answer_of, measure_answer, measured_numbers, numbers_after, measure_numbers, work_after, IndexCall, MeasureCall, Measured}
use Rattle.refusals.proofs.OneMore.{too_short, long-enough}
use Rattle.refusals.proofs.Deciding.{call-accepts}
use Rattle.measure_intake.proofs.Refused.{measure-decides}
use Rattle.buffer.specs.Wrote.{in_front}
use Rattle.refusals.specs.Tests.{if_accepted}
use Rattle.refusals.specs.Refusals.{Checked}
use Rattle.std.specs.Prelude.{Ok, Err}

-- ---- the intake
module _ (job : Job) (work : List ℕ) where
  -- the work slice after these checks
  left : Checked → List ℕ
  left c = if_accepted c (λ r. work) (in_front (index_of job) work)

  intake-is : {c : Checked} {work' : List ℕ} → c ≡ measure_checked job (length work) → work' ≡ left c → IndexCall job work c work'
  unfolding work_after left
  intake-is e k = record { answer = e; numbers = (checks (measure_tests job (length work)) e).numbers; index = k ∙ ap left e }

  -- a list that the checks refuse
  pub refused-intake : {c : Checked} (r : Refusal) → c ≡ checked job → c ≡ Err r → IndexCall job work c work
  unfolding measure_tests left
  refused-intake r e k =
      intake-is (k ∙ sym (first-stopped (short_work job (length work) ∷ []) (tests job) (sym e ∙ k))) (sym (ap left k))

  -- one that they accept, and a work slice that is too short or long enough
  module _ (accepted : checked job ≡ Ok tt) where
    pub valid : Valid job
    valid = (accepted-valid job).0 accepted

    pub short-intake : {n : ℕ} → n ≡ need job → length work < n → IndexCall job work (Err (ShortWork n)) work
    unfolding measure_tests left
    short-intake e h =
        intake-is (ap (λ n. Err (ShortWork n)) e ∙ sym (too_short (tests job) (length work) (need job) (ShortWork (need job)) accepted (omega (arith, e)))) refl

    pub long-intake : {n : ℕ} {work' : List ℕ} → n ≡ need job → n ≤ length work → work' ≡ in_front (index_of job) work
        → IndexCall job work (Ok tt) work'
    unfolding measure_tests left
    long-intake e h k = intake-is (sym (long-enough (tests job) (length work) (need job) (ShortWork (need job)) accepted (omega (arith, e)))) k

-- ---- an accepted list is valid, and the work slice holds its index
module _ {job : Job} {work work' : List ℕ} {c : Checked} (call : IndexCall job work c work') (k : c ≡ Ok tt) where
  pub accepted-holds : Holds job work'
  unfolding work_after left
  accepted-holds = record {
    valid = ((call-accepts (measure-decides job (length work)) call.answer).0 k).0;
    rest = drop (length (index_of job)) work;
    is = call.index ∙ ap (left job work) (sym call.answer ∙ k);
  }

-- ---- the numbers of an answer
pub answer-numbers : (c : Checked) (F : ℕ) (s : Cells) → measured_numbers (answer_of c F s) ≡ numbers_after c F s
unfolding measured_numbers
answer-numbers (Ok tt) F s = refl
answer-numbers (Err r) F s = refl

-- ---- measuring, after the intake
module _ {job : Job} {work work' : List ℕ} {c : Checked} (call : IndexCall job work c work') where
  open job use {field as F}

  measure-is : {m : Measured} → m ≡ answer_of c F (solid job) → MeasureCall job work m work'
  unfolding measure_answer measure_numbers
  measure-is e =
      let k = e ∙ ap (λ c. answer_of c F (solid job)) call.answer in
      record {
        answer = k;
        numbers = ap measured_numbers k ∙ answer-numbers (measure_checked job (length work)) F (solid job);
        index = call.index;
      }

  pub refused-measure : (r : Refusal) → c ≡ Err r → MeasureCall job work (Err r) work'
  refused-measure r k = measure-is (ap (λ c. answer_of c F (solid job)) (sym k))

  pub accepted-measure : {t : Totals} → c ≡ Ok tt → t ≡ totals_of F (solid job) → MeasureCall job work (Ok t) work'
  accepted-measure k e = measure-is (ap Ok e ∙ ap (λ c. answer_of c F (solid job)) (sym k))
