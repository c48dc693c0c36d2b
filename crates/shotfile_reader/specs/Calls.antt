-- What `read` answers, and what it leaves in the coordinate slice. docs/SCOPE.md, 'When a job is refused'.
use Rattle.std.specs.Prelude.{◌≡◌, List, [], ◌∷◌, ℕ, Result, Ok, Err}
use Rattle.buffer.specs.Wrote.{in_front}
use Rattle.job.specs.Job.{shot_count}
use Rattle.job.specs.declared.Stored.{Stored}
use Rattle.refusals.specs.declared.Refusal.{Refusal}
use Rattle.refusals.specs.Refusals.{number_of, detail_of}
use Rattle.shotfile_reader.specs.Files.{Rest, coordinates, faulty, File, file, refused, file_in}

-- how many shots are counted, or the refusal of the first faulty record
abbrev pub Counted : Type 0
Counted = Result ℕ Refusal

-- how many shots the rest of a file has
abbrev pub count_of : Rest → Counted
count_of (coordinates coords) = Ok (shot_count coords)
count_of (faulty r) = Err r

-- what a reader answers: the list that it stored, or its refusal
abbrev pub ReadAnswer : Type 0
ReadAnswer = Result Stored Refusal

-- a file's settings and its number of shots, or its refusal
abbrev pub read_answer : File → ReadAnswer
read_answer (file job) = Ok (record { field = job.field; edge = job.edge; grid = job.grid; shots = shot_count job.coords })
read_answer (refused r) = Err r

-- the numbers of an answer: the refusal's number and detail, 0 and 0 where there is none, then the field side, the shot edge, the grid
-- size and the number of shots, all 0 if refused
unfoldable pub read_numbers : ReadAnswer → List ℕ
read_numbers (Ok list) = 0 ∷ 0 ∷ list.field ∷ list.edge ∷ list.grid ∷ list.shots ∷ []
read_numbers (Err r) = number_of r ∷ detail_of r ∷ 0 ∷ 0 ∷ 0 ∷ 0 ∷ []

-- the same numbers, from what the file says
unfoldable pub read_values : File → List ℕ
read_values (file job) = 0 ∷ 0 ∷ job.field ∷ job.edge ∷ job.grid ∷ shot_count job.coords ∷ []
read_values (refused r) = number_of r ∷ detail_of r ∷ 0 ∷ 0 ∷ 0 ∷ 0 ∷ []

-- the first places are the coordinates, and the others keep their values, as all do after a refusal
abbrev pub read_coords : File → List ℕ → List ℕ
read_coords (file job) before = in_front job.coords before
read_coords (refused r) before = before

-- what `read` promises of its answer r and of the coordinate slice after it
pub record ReadCall (bytes before : List ℕ) (r : ReadAnswer) (after : List ℕ) : Type 0 where
  pub answer : r ≡ read_answer (file_in (shot_count before) bytes)
  pub numbers : read_numbers r ≡ read_values (file_in (shot_count before) bytes)
  pub coordinates : after ≡ read_coords (file_in (shot_count before) bytes) before
