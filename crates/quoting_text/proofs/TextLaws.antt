-- What quoting a file leaves, by what reading the file and measuring its list answer. The laws about a file are said once, of any file that
-- a call has read (`FileRead`), and taken for shot files at the end.
use mathlib.Core.Path.{◌≡◌, refl, sym, ◌∙◌, ap, subst}
use mathlib.Core.List.{List}
use Prim.Native.Nat.{ℕ, ◌≤◌}
use native.Mathlib.Omega.{arith}
use Rattle.buffer.specs.Wrote.{Wrote}
use Rattle.buffer.proofs.WroteLaws.{wrote_as}
use Rattle.job.specs.Job.{Job, job_of, shot_count, first_shots}
use Rattle.job.specs.declared.Stored.{Stored}
use Rattle.refusals.specs.declared.Refusal.{Refusal}
use Rattle.shotfile_reader.specs.Files.{File, file}
use Rattle.shotfile_reader.specs.Calls.{ReadCall, ReadAnswer}
use Rattle.shotfile_reader.proofs.Accepted.{FileRead, stored-list, stored-none, file-read}
use Rattle.measure_intake.specs.Intake.{MeasureCall, Measured}
use Rattle.quoting_text.specs.Quoting.{answer_text, quote_text, FileQuoted}
use Rattle.quoting_text.specs.Answered.{ShotsThere, answered_file, FileMeasured}
use Rattle.std.specs.Prelude.{Err, Ok}

-- ---- what reading answers
-- the same file, said otherwise
pub measured-as : {m : Measured} {work work' : List ℕ} {f g : File} → f ≡ g → FileMeasured f work m work' → FileMeasured g work m work'
measured-as {m} {work} {work'} e q = subst (λ (f : File). FileMeasured f work m work') e q

module _ (coords : List ℕ) {a : ReadAnswer} where
  pub answer-refused : {work : List ℕ} (r : Refusal) → a ≡ Err r → FileMeasured (answered_file a coords) work (Err r) work
  answer-refused r e = measured-as (ap (λ (b : ReadAnswer). answered_file b coords) (sym e)) (record { answer = refl; index = refl })

  pub answer-measured : {m : Measured} {work work' : List ℕ} {stored : Stored} {job : Job} → a ≡ Ok stored → job ≡ job_of stored.field stored.edge stored.grid (first_shots stored.shots coords)
      → MeasureCall job work m work' → FileMeasured (answered_file a coords) work m work'
  answer-measured e l q = measured-as (ap file l ∙ ap (λ (b : ReadAnswer). answered_file b coords) (sym e)) (record { answer = q.answer; index = q.index })

-- ---- a file that is read
module _ {k : File} {coords coords' : List ℕ} where
  -- its list stands in the coordinate slice
  pub shots-there : (a : ReadAnswer) → FileRead k coords a coords' → ShotsThere a coords'
  shots-there (Ok list) read = let f = stored-list k read refl in omega (arith, f.same_length, f.room)
  shots-there (Err r) read = tt

  -- so that the answer and the slice say what the file says
  pub answered-is : (a : ReadAnswer) → FileRead k coords a coords' → answered_file a coords' ≡ k
  answered-is (Ok list) read = sym (stored-list k read refl).is
  answered-is (Err r) read = sym (stored-none k read refl).0

-- ---- a shot file
module _ {bytes coords coords' : List ℕ} {a : ReadAnswer} (read : ReadCall bytes coords a coords') where
  pub file-there : ShotsThere a coords'
  file-there = shots-there a (file-read read)

  pub list-there : {stored : Stored} → a ≡ Ok stored → stored.shots ≤ shot_count coords'
  list-there e = subst (λ (b : ReadAnswer). ShotsThere b coords') e file-there

  pub file-quoted : {n : ℕ} {work work' out out' : List ℕ} {m : Measured} → FileMeasured (answered_file a coords') work m work' → Wrote out out' 0 n (answer_text m)
      → FileQuoted bytes coords work out n coords' work' out'
  unfolding quote_text
  file-quoted q w = let q = measured-as (answered-is a (file-read read)) q in record { text = wrote_as (ap answer_text q.answer) w; coordinates = read.coordinates; index = q.index }
