-- Condition 2, from what the calls promise. Assumes nothing.
use mathlib.Core.Path.{◌≡◌, sym, ◌∙◌, ap, subst}
use mathlib.Core.List.{List}
use Prim.Native.Nat.{ℕ, ◌≤◌}
use native.Mathlib.Omega.{arith}
use lib.ListN.{length, take, drop, length-append}
use Rattle.ground.specs.Numbers.{Bytes}
use Rattle.job.specs.Job.{Job, job_of, shot_count, first_shots, Valid}
use Rattle.job.specs.declared.Stored.{Stored}
use Rattle.refusals.specs.declared.Refusal.{Refusal}
use Rattle.measure_intake.specs.Intake.{MeasureCall, Measured}
use Rattle.measure.proofs.AcceptedLaws.{measure-accepted}
use Rattle.shotfile_reader.specs.Files.{file, refused, file_in}
use Rattle.shotfile_reader.specs.Calls.{ReadCall}
use Rattle.shotfile_reader.specs.Calls.{ReadAnswer}
use Rattle.shotfile_reader.proofs.Accepted.{accepted-file, refused-file}
use Rattle.shotfile_writer.specs.Calls.{WriteCall, WriteAnswer}
use Rattle.shotfile_writer.specs.Files.{file_of}
use Rattle.shotfile_writer.proofs.Accepted.{accepted-list}
use Rattle.shotfile_writer.proofs.Conditions.{write-accepts}
use Rattle.shotfile.proofs.RoundTrip.{read-what-write-wrote, written_read, write-what-read-read}
use Rattle.acceptance.specs.Condition2.{TotalsCounted, WrittenAndRead, ReadAndWritten}
use Rattle.std.specs.Prelude.{Ok, Err}

-- ---- totals
pub totals-counted : {job : Job} {work work' : List ℕ} {r : Measured} → MeasureCall job work r work' → TotalsCounted job r
totals-counted {job} {work} {work'} call t e = (measure-accepted (subst (λ (m : Measured). MeasureCall job work m work') e call)).totals-are

-- ---- a list that is written and read
module _ {job : Job} {bytes bytes' : List ℕ} {w : WriteAnswer} (wrote : WriteCall job bytes w bytes') where
  -- the file stands in the byte buffer
  pub written-there : {n : ℕ} → w ≡ Ok n → n ≤ length bytes'
  written-there e =
      let a = accepted-list wrote e in
      let long = ap length a.leaves ∙ length-append (file_of job) (drop (length (file_of job)) bytes) in
      omega (arith, a.long, long)

  pub reads_back : {n : ℕ} {front coords coords' : List ℕ} {r : ReadAnswer} → w ≡ Ok n → front ≡ take n bytes' → ReadCall front coords r coords' → WrittenAndRead job bytes coords r coords'
  reads_back {n} {front} {coords} {coords'} {r} e is read accepts room =
      let p = read-what-write-wrote wrote e (subst (λ (s : List ℕ). ReadCall s coords r coords') is read) room in
      record { answer = p.0; list = p.2 }

  -- a refused one is not accepted
  pub unread : {q : Refusal} {coords coords' : List ℕ} {r : ReadAnswer} → w ≡ Err q → WrittenAndRead job bytes coords r coords'
  unread e accepts room =
      let written = ((write-accepts wrote).1 accepts).1 in
      let z : ◌≡◌ {A = ℕ} 0 1 = cc in
      absurd (omega arith)

-- ---- a file that is read and written
same_job : {one two : Job} → file one ≡ file two → one ≡ two
same_job e = cc

module _ {bytes coords coords' : List ℕ} {r : ReadAnswer} (read : ReadCall bytes coords r coords') where
  pub write-back : {list : Stored} {stored : Job} {out out' : List ℕ} {w : WriteAnswer} → Bytes bytes → r ≡ Ok list
      → stored ≡ job_of list.field list.edge list.grid (first_shots list.shots coords') → WriteCall stored out w out' → ReadAndWritten bytes coords out w out'
  write-back {list} {out = out} {out' = out'} {w = w} b e is wrote job says accepts =
      let p = write-what-read-read read e b (subst (λ (j : Job). WriteCall j out w out') is wrote) (subst Valid same accepts.0) room in
      record { answer = p.0; file = p.2 }
    where
      kept : file_in (shot_count coords) bytes ≡ file (job_of list.field list.edge list.grid (first_shots list.shots coords'))
      kept = (accepted-file read e).is

      same : job ≡ job_of list.field list.edge list.grid (first_shots list.shots coords')
      same = same_job (sym says ∙ kept)

      room : length bytes ≤ length out
      room = omega (arith, accepts.1, ap length (written_read bytes (shot_count coords) job b says))

  -- a refused one says no list
  pub unwritten : {q : Refusal} {out out' : List ℕ} {w : WriteAnswer} → r ≡ Err q → ReadAndWritten bytes coords out w out'
  unwritten {q} e job says accepts =
      let both : file job ≡ refused q = sym says ∙ (refused-file read e).0 in
      let z : ◌≡◌ {A = ℕ} 0 1 = cc in
      absurd (omega arith)
