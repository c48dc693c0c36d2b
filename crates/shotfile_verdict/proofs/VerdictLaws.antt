-- The line of a list's refusal, by what reading the file and checking its list answers.
use mathlib.Core.Path.{◌≡◌, sym, ap}
use mathlib.Core.List.{List}
use Prim.Native.Nat.{ℕ, ◌+◌, ◌≤◌}
use native.Mathlib.Omega.{arith}
use lib.ListN.{length}
use Rattle.buffer.specs.Wrote.{Wrote}
use Rattle.buffer.proofs.WroteLaws.{wrote_none, wrote_as}
use Rattle.refusals.specs.Refusals.{Checked}
use Rattle.std.specs.Prelude.{Ok, Err}
use Rattle.refusals.specs.declared.Refusal.{Refusal}
use Rattle.job.specs.Job.{job_of, shot_count, first_shots}
use Rattle.job.specs.Checking.{checked}
use Rattle.job.specs.declared.Stored.{Stored}
use Rattle.shotfile_reader.specs.Files.{file_in}
use Rattle.shotfile_reader.specs.Calls.{ReadAnswer, ReadCall}
use Rattle.shotfile_reader.proofs.Accepted.{accepted-file, refused-file}
use Rattle.shotfile_verdict.specs.Verdicts.{list_verdict, verdict}

pub accepted-verdict : {k : Checked} (w : List ℕ) (at : ℕ) → Ok tt ≡ k → at + 128 ≤ length w → Wrote w w at at (list_verdict k)
accepted-verdict w at e h = wrote_as (ap list_verdict e) (wrote_none w at (omega arith))

-- by what `read` answered
module _ {s before after : List ℕ} {r : ReadAnswer} (c : ReadCall s before r after) where
  module _ {list : Stored} (e : r ≡ Ok list) where
    pub read-room : list.shots ≤ shot_count after
    read-room = let a = accepted-file c e in omega (arith, a.room, a.same_length)

    pub read-verdict : list_verdict (checked (job_of list.field list.edge list.grid (first_shots list.shots after))) ≡ verdict (file_in (shot_count before) s)
    read-verdict = ap verdict (sym (accepted-file c e).is)

  pub refused-verdict : {q : Refusal} (w : List ℕ) (at : ℕ) → r ≡ Err q → at + 128 ≤ length w → Wrote w w at at (verdict (file_in (shot_count before) s))
  refused-verdict w at e h = wrote_as (ap verdict (sym (refused-file c e).0)) (wrote_none w at (omega arith))
