-- What writing a drawing leaves, by what reading the VOX file and writing its list answer; and that an accepted drawing is always written,
-- where the slice has room for the longest file. Assumes nothing.
use mathlib.Core.Path.{◌≡◌, refl, sym, ◌∙◌, ap}
use mathlib.Core.List.{List}
use Prim.Native.Nat.{ℕ, ◌≤◌}
use native.Mathlib.Omega.{arith}
use lib.ListN.{length, drop, length-append}
use Rattle.buffer.specs.Wrote.{in_front}
use Rattle.refusals.specs.declared.Refusal.{Refusal}
use Rattle.job.specs.Job.{Job, job_of, shot_count, first_shots}
use Rattle.shotfile_reader.specs.Files.{File, file, refused}
use Rattle.std.specs.Prelude.{Ok, Err}
use Rattle.job.specs.declared.Stored.{Stored}
use Rattle.shotfile_reader.specs.Calls.{ReadAnswer}
use Rattle.shotfile_reader.proofs.Accepted.{FileRead, stored-list, stored-none}
use Rattle.shotfile_writer.specs.Calls.{WriteAnswer}
use Rattle.shotfile_writer.specs.Files.{file_of}
use Rattle.shotfile_writer.specs.Calls.{WriteCall}
use Rattle.shotfile_writer.proofs.Accepted.{AcceptedList, accepted-list}
use Rattle.shotfile_writer.proofs.Conditions.{write-accepts}
use Rattle.shotfile_writer.proofs.Writing.{file-most}
use Rattle.vox.specs.Vox.{vox_in, VoxCall}
use Rattle.vox.proofs.Fits.{vox-fits}
use Rattle.vox.proofs.Voxels.{vox-list}
use Rattle.drawn_file.specs.Drawn.{drawn_answer, drawn_numbers, drawn_after, FileDrawn}

-- ---- a VOX file that is read
module _ {bytes coords coords' : List ℕ} {a : ReadAnswer} (read : VoxCall bytes coords a coords') where
  vox-read : FileRead (vox_in (shot_count coords) bytes) coords a coords'
  vox-read = record { answer = read.answer; coordinates = read.coordinates; fits = vox-fits (shot_count coords) bytes }

  pub voxels-there : {list : Stored} → a ≡ Ok list → list.shots ≤ shot_count coords'
  voxels-there e = let s = stored-list (vox_in (shot_count coords) bytes) vox-read e in omega (arith, s.same_length, s.room)

  pub file-undrawn : {lent : List ℕ} (r : Refusal) → a ≡ Err r → FileDrawn bytes coords lent (Err r) coords' lent
  file-undrawn {lent} r e =
      let k = sym (stored-none (vox_in (shot_count coords) bytes) vox-read e).0 in
      record {
        answer = ap (λ (f : File). drawn_answer f (length lent)) k;
        numbers = ap (λ (f : File). drawn_numbers f (length lent)) k;
        coordinates = read.coordinates;
        shot_file = ap (λ (f : File). drawn_after f lent) k;
      }

  pub file-drawn : {lent lent' : List ℕ} {w : WriteAnswer} {list : Stored} {job : Job} → a ≡ Ok list → job ≡ job_of list.field list.edge list.grid (first_shots list.shots coords')
      → WriteCall job lent w lent' → FileDrawn bytes coords lent w coords' lent'
  file-drawn {lent} {list = list} {job = job} e l q =
      let is : file job ≡ vox_in (shot_count coords) bytes =
      ap file l ∙ sym (stored-list (vox_in (shot_count coords) bytes) vox-read e).is in
      record {
        answer = q.answer ∙ ap (λ (f : File). drawn_answer f (length lent)) is;
        numbers = q.numbers ∙ ap (λ (f : File). drawn_numbers f (length lent)) is;
        coordinates = read.coordinates;
        shot_file = q.file ∙ ap (λ (f : File). drawn_after f lent) is;
      }

-- ---- a drawing that is written
module _ {bytes coords lent coords' lent' : List ℕ} {w : WriteAnswer} (call : FileDrawn bytes coords lent w coords' lent') where
  -- an accepted one, as `write` writes its list
  pub drawn-call : {job : Job} → vox_in (shot_count coords) bytes ≡ file job → WriteCall job lent w lent'
  drawn-call is =
      record {
        answer = call.answer ∙ ap (λ (f : File). drawn_answer f (length lent)) is;
        numbers = call.numbers ∙ ap (λ (f : File). drawn_numbers f (length lent)) is;
        file = call.shot_file ∙ ap (λ (f : File). drawn_after f lent) is;
      }

  -- always, where the slice has room for the longest file: the shortest file of its list
  pub drawn-always : {job : Job} → vox_in (shot_count coords) bytes ≡ file job → 28679 ≤ length lent
      → (w ≡ Ok (length (file_of job))) × (lent' ≡ in_front (file_of job) lent)
  drawn-always {job} is room =
      let v = (vox-list (shot_count coords) bytes is).valid in
      let k = (write-accepts (drawn-call is)).1 (v, omega (arith, file-most job v.few)) in
      let a = accepted-list (drawn-call is) k.1 in
      (k.1 ∙ ap Ok a.long, a.leaves)

  module _ {n : ℕ} (e : w ≡ Ok n) where
    -- what is written is the file of an accepted drawing
    pub record DrawingOf : Type 0 where
      pub job : Job
      pub is : vox_in (shot_count coords) bytes ≡ file job
      pub written : AcceptedList job lent n lent'

    pub drawing-of : DrawingOf
    drawing-of = go (vox_in (shot_count coords) bytes) refl (sym e ∙ call.answer)
      where
        go : (f : File) → vox_in (shot_count coords) bytes ≡ f → Ok n ≡ drawn_answer f (length lent) → DrawingOf
        go (file job) is k = record { job = job; is = is; written = accepted-list (drawn-call is) e }
        go (refused r) is k = let z : ◌≡◌ {A = ℕ} 0 1 = cc in absurd (omega arith)

    -- and fits the slice
    pub drawn-within : n ≤ length lent'
    drawn-within =
        let d = drawing-of in
        let a = d.written in
        omega (arith, a.long, ap length a.leaves, length-append (file_of d.job) (drop (length (file_of d.job)) lent))
