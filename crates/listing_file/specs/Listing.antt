-- What listing a shot file answers, and what is in the lent slices then: the list that the file holds is listed. docs/SCOPE.md, 'Corner
-- points'.
use Rattle.std.specs.Prelude.{◌≡◌, List, ℕ, length, Err}
use Rattle.job.specs.Job.{shot_count}
use Rattle.shotfile_reader.specs.Files.{File, file, refused, file_in}
use Rattle.shotfile_reader.specs.Calls.{read_coords}
use Rattle.measure_intake.specs.Intake.{MeasuredNumbers, measured_numbers, refused_numbers, Measured}
use Rattle.measure.specs.Answers.{list_answer, list_numbers, listing_after}
use Rattle.quoting_text.specs.Quoting.{index_after}

-- with so many work entries and bytes of the buffer; a file that is refused is not listed
abbrev pub listed_answer : File → ℕ → ℕ → Measured
listed_answer (file job) entries room = list_answer job entries room
listed_answer (refused r) entries room = Err r

abbrev pub listed_numbers : File → ℕ → ℕ → MeasuredNumbers
listed_numbers (file job) entries room = list_numbers job entries room
listed_numbers (refused r) entries room = refused_numbers r

abbrev pub listed_after : File → ℕ → List ℕ → List ℕ
listed_after (file job) entries buffer = listing_after job entries buffer
listed_after (refused r) entries buffer = buffer

-- ---- the promise
pub record FileListed (bytes coords work buffer : List ℕ) (r : Measured) (coords' work' buffer' : List ℕ) : Type 0 where
  pub answer : r ≡ listed_answer (file_in (shot_count coords) bytes) (length work) (length buffer)
  pub numbers : measured_numbers r ≡ listed_numbers (file_in (shot_count coords) bytes) (length work) (length buffer)
  pub coordinates : coords' ≡ read_coords (file_in (shot_count coords) bytes) coords
  pub index : work' ≡ index_after (file_in (shot_count coords) bytes) work
  pub listing : buffer' ≡ listed_after (file_in (shot_count coords) bytes) (length work) buffer
