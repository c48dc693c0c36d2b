-- What an answer of `write` says, by the call's contract: the list that was written, and its file. Assumes nothing.
use mathlib.Core.Path.{◌≡◌, refl, sym, ap, ◌∙◌}
use mathlib.Core.List.{List}
use Prim.Native.Nat.{ℕ, ◌≤◌}
use native.Mathlib.Omega.{arith}
use lib.ListN.{length}
use Rattle.buffer.specs.Wrote.{in_front}
use Rattle.refusals.specs.Refusals.{Checked}
use Rattle.std.specs.Prelude.{Ok, Err}
use Rattle.job.specs.Job.{Job, Valid}
use Rattle.refusals.specs.Tests.{first_of, if_accepted}
use Rattle.shotfile_writer.specs.Calls.{WriteAnswer}
use Rattle.shotfile_writer.specs.Files.{file_of}
use Rattle.shotfile_writer.specs.Calls.{write_tests, write_answer, write_bytes, WriteCall}
use Rattle.shotfile_writer.proofs.Writing.{write-decides}

-- a list that `write` accepts, and its file in the byte buffer
pub record AcceptedList (job : Job) (before : List ℕ) (n : ℕ) (after : List ℕ) : Type 0 where
  pub valid : Valid job
  pub long : n ≡ length (file_of job)
  pub room : length (file_of job) ≤ length before
  pub leaves : after ≡ in_front (file_of job) before

pub accepted-list : {job : Job} {before after : List ℕ} {w : WriteAnswer} → WriteCall job before w after → {n : ℕ} → w ≡ Ok n
    → AcceptedList job before n after
unfolding write_answer write_bytes
accepted-list {job} {before} {after} c {n} e = go (first_of (write_tests job (length before))) refl (sym c.answer ∙ e)
  where
    go : (k : Checked) → first_of (write_tests job (length before)) ≡ k → if_accepted k Err (Ok (length (file_of job))) ≡ Ok n
        → AcceptedList job before n after
    go (Err r) q e = let z : ◌≡◌ {A = ℕ} 0 1 = cc in absurd (omega arith)
    go (Ok tt) q e =
        let m : length (file_of job) ≡ n = cc in
        let (v, r) = (write-decides job (length before)).accepted.0 q in
        record {
          valid = v;
          long = sym m;
          room = r;
          leaves = c.file ∙ ap (λ (k : Checked). if_accepted k (λ r. before) (in_front (file_of job) before)) q;
        }
