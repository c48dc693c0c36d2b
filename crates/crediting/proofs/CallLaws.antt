-- How the answer of the crediting call, and what it leaves, follow from the intake, the length of the credit slice and the credits.
use mathlib.Core.Path.{◌≡◌, refl, sym, ap, ◌∙◌}
use mathlib.Core.List.{List, [], ◌∷◌}
use Prim.Native.Nat.{ℕ, ◌≤◌, ◌<◌}
use native.Mathlib.Omega.{arith}
use lib.ListN.{length}
use Rattle.job.specs.Job.{Job, shot_count}
use Rattle.refusals.specs.declared.Refusal.{Refusal}
use Rattle.refusals.specs.declared.Refusal.TheVariants.{ShortCredits}
use Rattle.refusals.proofs.FirstOf.{first-stopped, checks}
use Rattle.refusals.proofs.OneMore.{too_short, long-enough}
use Rattle.measure_intake.specs.Intake.{measure_tests, IndexCall}
use Rattle.crediting.specs.Credits.{credits_of, short_credits, credit_tests, credit_checked, credits_after, CreditCall}
use Rattle.buffer.specs.Wrote.{in_front}
use Rattle.refusals.specs.Tests.{if_accepted}
use Rattle.refusals.specs.Refusals.{Checked}
use Rattle.std.specs.Prelude.{Ok, Err}

module _ {job : Job} {work work' : List ℕ} {c : Checked} (call : IndexCall job work c work') (credits : List ℕ) where
  open job use {coords}

  -- the credit slice after these checks
  left : Checked → List ℕ
  left d = if_accepted d (λ r. credits) (in_front (credits_of job.field job.edge job.coords) credits)

  credit-is : {d : Checked} {credits' : List ℕ} → d ≡ credit_checked job (length work) (length credits) → credits' ≡ left d → CreditCall job work credits d work' credits'
  unfolding credits_after left
  credit-is e k = record {
    answer = e;
    numbers = (checks (credit_tests job (length work) (length credits)) e).numbers;
    index = call.index;
    credited = k ∙ ap left e;
  }

  -- a list that the intake refuses
  pub refused-credit : (r : Refusal) → c ≡ Err r → CreditCall job work credits c work' credits
  unfolding credit_tests left
  refused-credit r k =
      credit-is (k ∙ sym (first-stopped (short_credits coords (length credits) ∷ []) (measure_tests job (length work)) (sym call.answer ∙ k))) (sym (ap left k))

  -- one that it accepts, and a credit slice that is too short or long enough
  module _ (accepted : c ≡ Ok tt) {n : ℕ} (shots : n ≡ shot_count coords) where
    pub short-credit : length credits < n → CreditCall job work credits (Err (ShortCredits n)) work' credits
    unfolding credit_tests left
    short-credit h =
        credit-is (ap (λ n. Err (ShortCredits n)) shots ∙ sym (too_short (measure_tests job (length work)) (length credits) (shot_count coords) (ShortCredits (shot_count coords)) (sym call.answer ∙ accepted) (omega (arith, shots)))) refl

    pub long-credit : n ≤ length credits → {credits' : List ℕ} → credits' ≡ in_front (credits_of job.field job.edge job.coords) credits → CreditCall job work credits (Ok tt) work' credits'
    unfolding credit_tests left
    long-credit h k =
        credit-is (sym (long-enough (measure_tests job (length work)) (length credits) (shot_count coords) (ShortCredits (shot_count coords)) (sym call.answer ∙ accepted) (omega (arith, shots)))) k
