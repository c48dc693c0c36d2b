-- When crediting accepts a list and when it refuses it, each exactly, and what a refusal leaves: docs/SCOPE.md, 'When a job is refused'. The
-- statements speak of a call by what it promises. Assumes nothing.
use mathlib.Core.Path.{◌≡◌, sym, ap, ◌∙◌}
use mathlib.Core.List.{List}
use mathlib.Core.Logic.{◌↔◌}
use Prim.Native.Nat.{ℕ}
use lib.ListN.{length}
use Rattle.job.specs.Job.{Job, shot_count}
use Rattle.refusals.specs.declared.Refusal.{Refusal}
use Rattle.refusals.specs.declared.Refusal.TheVariants.{ShortCredits}
use Rattle.refusals.specs.Deciding.{Decides}
use Rattle.refusals.proofs.Deciding.{decides-more, call-accepts, call-refuses}
use Rattle.grid.specs.Grid.{index_of}
use Rattle.measure_intake.specs.Intake.{MeasureAccepts, MeasureRefuses}
use Rattle.measure_intake.proofs.Refused.{measure-decides, work-stored, work-kept}
use Rattle.crediting.specs.Credits.{credits_of, credit_tests, credits_after, CreditCall, CreditAccepts, CreditRefuses}
use Rattle.buffer.specs.Wrote.{in_front}
use Rattle.refusals.specs.Tests.{if_accepted}
use Rattle.refusals.specs.Refusals.{Checked}
use Rattle.std.specs.Prelude.{Ok, Err}

-- ---- the checks
module _ (job : Job) (entries places : ℕ) where
  open job use {coords}

  pub credit-decides : Decides (credit_tests job entries places) (CreditAccepts job entries places) (CreditRefuses job entries places)
  unfolding credit_tests
  credit-decides = decides-more (measure-decides job entries) places (shot_count coords) (ShortCredits (shot_count coords))

-- ---- a crediting call
module _ {job : Job} {work credits work' credits' : List ℕ} {c : Checked} (call : CreditCall job work credits c work' credits') where
  open job use {coords}

  -- a list is accepted if and only if it is valid and both lent slices are long enough
  pub credit-accepts : (c ≡ Ok tt) ↔ CreditAccepts job (length work) (length credits)
  credit-accepts = call-accepts (credit-decides job (length work) (length credits)) call.answer

  -- a refusal is given if and only if its condition is the first that holds
  pub credit-refuses : (r : Refusal) → (c ≡ Err r) ↔ CreditRefuses job (length work) (length credits) r
  credit-refuses = call-refuses (credit-decides job (length work) (length credits)) call.answer

  -- a refusal leaves the credits as they were
  pub credit-refused-keeps : (r : Refusal) → c ≡ Err r → credits' ≡ credits
  unfolding credits_after
  credit-refused-keeps r e = call.credited ∙ ap (λ c. if_accepted c (λ r. credits) (in_front (credits_of job.field job.edge job.coords) credits)) (sym call.answer ∙ e)

  -- one of measuring leaves the work slice as it was, and 16 leaves the finished index in it
  pub credit-work-kept : (r : Refusal) → MeasureRefuses job (length work) r → work' ≡ work
  credit-work-kept r h = call.index ∙ work-kept job work r h

  pub credit-work-done : MeasureAccepts job (length work) → work' ≡ in_front (index_of job) work
  credit-work-done h = call.index ∙ work-stored job work h
