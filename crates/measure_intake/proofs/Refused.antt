-- When measuring accepts a list and when it refuses it, each exactly: docs/SCOPE.md, 'When a job is refused'. The statements speak of a
-- call by what it promises. Assumes nothing.
use mathlib.Core.Path.{◌≡◌, refl, sym, ap, ◌∙◌}
use mathlib.Core.List.{List}
use mathlib.Core.Logic.{◌↔◌}
use Prim.Native.Nat.{ℕ}
use native.Mathlib.Omega.{arith}
use lib.ListN.{length}
use Rattle.job.specs.Job.{Job}
use Rattle.lattice.specs.Cells.{Cells}
use Rattle.lattice_sums.specs.CornerSums.{totals_of}
use Rattle.lattice_sums.specs.declared.sums.Totals.{Totals}
use Rattle.refusals.specs.Deciding.{Decides}
use Rattle.job.proofs.Conditions.{job-decides}
use Rattle.refusals.proofs.Deciding.{decides-more, call-accepts, call-refuses}
use Rattle.refusals.specs.declared.Refusal.{Refusal}
use Rattle.refusals.specs.declared.Refusal.TheVariants.{ShortWork}
use Rattle.grid.specs.Grid.{index_of, need}
use Rattle.measure_intake.specs.Intake.{solid, measure_tests, measure_checked, answer_of, measure_answer, work_after, IndexCall, MeasureCall, MeasureAccepts, MeasureRefuses, Measured}
use Rattle.buffer.specs.Wrote.{in_front}
use Rattle.refusals.specs.Tests.{if_accepted}
use Rattle.refusals.specs.Refusals.{Checked}
use Rattle.std.specs.Prelude.{Ok, Err}

-- an answer is a refusal if and only if the checks give it, and a quote if and only if they pass
pub answer-refused : (c : Checked) (F : ℕ) (s : Cells) (r : Refusal) → (answer_of c F s ≡ Err r) ↔ (c ≡ Err r)
answer-refused c F s r = (to c, λ e. ap (λ (k : Checked). answer_of k F s) e)
  where
    to : (c : Checked) → answer_of c F s ≡ Err r → c ≡ Err r
    to (Ok tt) e = let z : ◌≡◌ {A = ℕ} 0 1 = cc in absurd (omega arith)
    to (Err q) e = let same : q ≡ r = cc in ap Err same

pub answer-accepted : (c : Checked) (F : ℕ) (s : Cells) → ((t : Totals) × (answer_of c F s ≡ Ok t)) ↔ (c ≡ Ok tt)
answer-accepted c F s = (λ q. to c q.0 q.1, λ e. (totals_of F s, ap (λ (k : Checked). answer_of k F s) e))
  where
    to : (c : Checked) (t : Totals) → answer_of c F s ≡ Ok t → c ≡ Ok tt
    to (Ok tt) t e = refl
    to (Err q) t e = let z : ◌≡◌ {A = ℕ} 0 1 = cc in absurd (omega arith)

-- ---- the checks of measuring
pub measure-decides : (job : Job) (entries : ℕ) → Decides (measure_tests job entries) (MeasureAccepts job entries) (MeasureRefuses job entries)
unfolding measure_tests
measure-decides job entries = decides-more (job-decides job) entries (need job) (ShortWork (need job))

-- ---- the work slice after the checks: the index in front where they pass, as it was where they refuse
module _ (job : Job) (work : List ℕ) where
  pub work-stored : MeasureAccepts job (length work) → work_after job work ≡ in_front (index_of job) work
  unfolding work_after
  work-stored h = ap (λ c. if_accepted c (λ r. work) (in_front (index_of job) work)) ((measure-decides job (length work)).accepted.1 h)

  pub work-kept : (r : Refusal) → MeasureRefuses job (length work) r → work_after job work ≡ work
  unfolding work_after
  work-kept r h = ap (λ c. if_accepted c (λ r. work) (in_front (index_of job) work)) (((measure-decides job (length work)).refused r).1 h)

-- ---- the intake
module _ {job : Job} {work work' : List ℕ} {c : Checked} (call : IndexCall job work c work') where
  pub index-accepts : (c ≡ Ok tt) ↔ MeasureAccepts job (length work)
  index-accepts = call-accepts (measure-decides job (length work)) call.answer

  pub index-refuses : (r : Refusal) → (c ≡ Err r) ↔ MeasureRefuses job (length work) r
  index-refuses = call-refuses (measure-decides job (length work)) call.answer

-- ---- a measuring call
module _ {job : Job} {work work' : List ℕ} {m : Measured} (call : MeasureCall job work m work') where
  open job use {field as F}

  -- a quote is given if and only if the list is valid and the work slice is long enough
  pub measure-accepts : ((t : Totals) × (m ≡ Ok t)) ↔ MeasureAccepts job (length work)
  unfolding measure_answer
  measure-accepts =
      let answer = answer-accepted (measure_checked job (length work)) F (solid job) in
      let h = (measure-decides job (length work)).accepted in
      (λ q. h.0 (answer.0 (q.0, sym call.answer ∙ q.1)), λ v. let q = answer.1 (h.1 v) in (q.0, call.answer ∙ q.1))

  -- a refusal is given if and only if its condition is the first that holds
  pub measure-refuses : (r : Refusal) → (m ≡ Err r) ↔ MeasureRefuses job (length work) r
  unfolding measure_answer
  measure-refuses r =
      let answer = answer-refused (measure_checked job (length work)) F (solid job) r in
      let h = (measure-decides job (length work)).refused r in
      (λ e. h.0 (answer.0 (sym call.answer ∙ e)), λ v. call.answer ∙ answer.1 (h.1 v))

  -- a refusal changes nothing
  pub measure-refused-keeps : (r : Refusal) → m ≡ Err r → work' ≡ work
  measure-refused-keeps r e = call.index ∙ work-kept job work r ((measure-refuses r).0 e)
