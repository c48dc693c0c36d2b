-- What a file says, from the answer of the call that read it and the coordinate slice after that call; so quoting goes on from there in one
-- way, whatever the file's form.
use Rattle.std.specs.Prelude.{◌≡◌, List, ℕ, ◌≤◌, length, Ok, Err}
use Rattle.job.specs.Job.{job_of, shot_count, first_shots}
use Rattle.shotfile_reader.specs.Files.{File, file, refused}
use Rattle.shotfile_reader.specs.Calls.{ReadAnswer}
use Rattle.quoting_text.specs.Quoting.{measured_file, index_after}
use Rattle.measure_intake.specs.Intake.{Measured}

-- the shots of an accepted file stand in the slice
abbrev pub ShotsThere : ReadAnswer → List ℕ → Type 0
ShotsThere (Ok list) coords = list.shots ≤ shot_count coords
ShotsThere (Err r) coords = Unit {0}

-- its settings and its list, or its refusal
abbrev pub answered_file : ReadAnswer → List ℕ → File
answered_file (Ok list) coords = file (job_of list.field list.edge list.grid (first_shots list.shots coords))
answered_file (Err r) coords = refused r

-- measuring what a file says
pub record FileMeasured (f : File) (work : List ℕ) (m : Measured) (work' : List ℕ) : Type 0 where
  pub answer : m ≡ measured_file f (length work)
  pub index : work' ≡ index_after f work
