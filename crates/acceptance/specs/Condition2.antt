-- Condition 2: the totals are the published cell counts; a list that is written to a shot file and read again is that list with its
-- settings; a file that is read and written again is its bytes. docs/SCOPE.md, 'Cells and totals', 'Shot file'.
use Rattle.std.specs.Prelude.{◌≡◌, List, ℕ, ◌≤◌, length, Ok}
use Rattle.buffer.specs.Wrote.{in_front}
use Rattle.job.specs.Job.{Job, shot_count}
use Rattle.lattice_sums.specs.CornerSums.{totals_of}
use Rattle.lattice_sums.specs.declared.sums.Totals.{Totals}
use Rattle.measure_intake.specs.Intake.{solid, Measured}
use Rattle.shotfile_reader.specs.Files.{file, file_in}
use Rattle.shotfile_reader.specs.Calls.{ReadAnswer}
use Rattle.shotfile_writer.specs.Conditions.{WriteAccepts}
use Rattle.shotfile_writer.specs.Calls.{WriteAnswer}

-- the totals of an accepted list are the counts of its cells and of its corner points
abbrev pub TotalsCounted : Job → Measured → Type 0
TotalsCounted job r = (t : Totals) → r ≡ Ok t → t ≡ totals_of job.field (solid job)

-- written to a byte buffer with room for the file, and read into a slice with a place for each shot: the settings, the number of shots, and
-- the list in front of the slice
pub record ReadBack (job : Job) (coords : List ℕ) (r : ReadAnswer) (coords' : List ℕ) : Type 0 where
  pub answer : r ≡ Ok (record { field = job.field; edge = job.edge; grid = job.grid; shots = shot_count job.coords })
  pub list : coords' ≡ in_front job.coords coords

abbrev pub WrittenAndRead : Job → List ℕ → List ℕ → ReadAnswer → List ℕ → Type 0
WrittenAndRead job bytes coords r coords' = WriteAccepts job (length bytes) → shot_count job.coords ≤ shot_count coords → ReadBack job coords r coords'

-- read into a slice, and written to a byte buffer with room for it: the file's length, and its bytes in front of the buffer
pub record WrittenBack (bytes out : List ℕ) (r : WriteAnswer) (out' : List ℕ) : Type 0 where
  pub answer : r ≡ Ok (length bytes)
  pub file : out' ≡ in_front bytes out

-- every file that is read, whose list the writer accepts: a valid list's shortest file is one
abbrev pub ReadAndWritten : List ℕ → List ℕ → List ℕ → WriteAnswer → List ℕ → Type 0
ReadAndWritten bytes coords out r out' =
    (job : Job) → file_in (shot_count coords) bytes ≡ file job → WriteAccepts job (length out) → WrittenBack bytes out r out'
