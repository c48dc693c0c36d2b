-- Each refusal of `write` is given if its condition holds and no earlier one does, and never otherwise; a list is written exactly where
-- none holds. Stated of the call by its contract. Assumes nothing.
use mathlib.Core.Path.{◌≡◌, sym, ap, ◌∙◌}
use mathlib.Core.List.{List}
use mathlib.Core.Logic.{◌↔◌}
use Prim.Native.Nat.{ℕ}
use native.Mathlib.Omega.{arith}
use lib.ListN.{length}
use Rattle.refusals.specs.declared.Refusal.{Refusal}
use Rattle.refusals.specs.Refusals.{Checked}
use Rattle.std.specs.Prelude.{Ok, Err}
use Rattle.job.specs.Job.{Job}
use Rattle.refusals.specs.Tests.{first_of, if_accepted}
use Rattle.shotfile_writer.specs.Calls.{WriteAnswer}
use Rattle.shotfile_writer.specs.Files.{file_of}
use Rattle.shotfile_writer.specs.Calls.{write_tests, write_answer, WriteCall}
use Rattle.shotfile_writer.specs.Conditions.{WriteAccepts, WriteRefuses}
use Rattle.shotfile_writer.proofs.Writing.{write-decides}
use Rattle.shotfile_writer.proofs.Accepted.{accepted-list}

module _ {job : Job} {before after : List ℕ} {w : WriteAnswer} (c : WriteCall job before w after) where
  -- a refusal is given if and only if its condition is the first that holds
  pub write-refuses : (r : Refusal) → (w ≡ Err r) ↔ WriteRefuses job (length before) r
  unfolding write_answer
  write-refuses r = (
    λ e. ((write-decides job (length before)).refused r).0 (stopped (first_of (write_tests job (length before))) (sym c.answer ∙ e)),
    λ h. c.answer ∙ ap (λ (k : Checked). if_accepted k Err (Ok (length (file_of job)))) (((write-decides job (length before)).refused r).1 h),
  )
    where
      stopped : (k : Checked) → if_accepted k Err (Ok (length (file_of job))) ≡ Err r → k ≡ Err r
      stopped (Ok tt) e = let z : ◌≡◌ {A = ℕ} 0 1 = cc in absurd (omega arith)
      stopped (Err q) e = let same : q ≡ r = cc in ap Err same

  -- a list is written if and only if it is valid and its file fits
  pub write-accepts : ((n : ℕ) × (w ≡ Ok n)) ↔ WriteAccepts job (length before)
  unfolding write_answer
  write-accepts = (
    λ h. let a = accepted-list c h.1 in (a.valid, a.room),
    λ h. (length (file_of job), c.answer ∙ ap (λ (k : Checked). if_accepted k Err (Ok (length (file_of job)))) ((write-decides job (length before)).accepted.1 h)),
  )
