-- What the quoting program prints for a shot file, and what is in the lent slices then: docs/SCOPE.md, the end of 'Jobs with known totals'.
use Rattle.std.specs.Prelude.{◌≡◌, List, ℕ, length, Ok, Err}
use Rattle.buffer.specs.Wrote.{Wrote}
use Rattle.job.specs.Job.{shot_count}
use Rattle.shotfile_reader.specs.Files.{File, file, refused, file_in}
use Rattle.shotfile_reader.specs.Calls.{read_coords}
use Rattle.measure_intake.specs.Intake.{measure_answer, work_after, Measured}
use Rattle.text_report.specs.Lines.{quote_lines}
use Rattle.text_refusal.specs.RefusalLine.{refusal_text}

-- a quote prints its lines, and a refusal only its number and detail
unfoldable pub answer_text : Measured → List ℕ
answer_text (Ok t) = quote_lines t
answer_text (Err r) = refusal_text r

-- the file is read, and the list that it holds is measured
abbrev pub measured_file : File → ℕ → Measured
measured_file (file job) entries = measure_answer job entries
measured_file (refused r) entries = Err r

abbrev pub quoted_text : File → ℕ → List ℕ
quoted_text f entries = answer_text (measured_file f entries)

-- with places for so many shots, and so many work entries
unfoldable pub quote_text : List ℕ → ℕ → ℕ → List ℕ
quote_text bytes places entries = quoted_text (file_in places bytes) entries

-- the work slice then: the index of the list, if neither the file nor the list is refused
abbrev pub index_after : File → List ℕ → List ℕ
index_after (file job) work = work_after job work
index_after (refused r) work = work

-- ---- the promise
-- quoting a file: the text at the front, its coordinates and the index. A refused file leaves both slices as they were.
pub record FileQuoted (bytes coords work out : List ℕ) (r : ℕ) (coords' work' out' : List ℕ) : Type 0 where
  pub text : Wrote out out' 0 r (quote_text bytes (shot_count coords) (length work))
  pub coordinates : coords' ≡ read_coords (file_in (shot_count coords) bytes) coords
  pub index : work' ≡ index_after (file_in (shot_count coords) bytes) work
