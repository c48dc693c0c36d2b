-- What the program `credits` prints for a shot file, and what is in the lent slices then: docs/SCOPE.md, 'Credits'.
use Rattle.std.specs.Prelude.{◌≡◌, List, ℕ, length, get_or, Ok, Err}
use Rattle.buffer.specs.Wrote.{Wrote}
use Rattle.ground.specs.Sums.{join}
use Rattle.job.specs.Job.{Job, shot_count}
use Rattle.shotfile_reader.specs.Files.{File, file, refused, file_in}
use Rattle.shotfile_reader.specs.Calls.{read_coords}
use Rattle.measure_intake.specs.Intake.{work_after}
use Rattle.text_parts.specs.Decimal.{decimal, line}
use Rattle.text_refusal.specs.RefusalLine.{refusal_text}
use Rattle.quoting_text.specs.Quoting.{index_after}
use Rattle.crediting.specs.Credits.{credits_of, credit_checked, credits_after}
use Rattle.refusals.specs.Refusals.{Checked}

-- a shot's number, a space, its credit, and the end of the line
abbrev pub credit_line : ℕ → ℕ → List ℕ
credit_line shot credit = line (decimal shot) credit

-- a line a shot
unfoldable pub credit_lines : List ℕ → List ℕ
credit_lines credits = join (length credits) λ s. credit_line s (get_or credits s 0)

-- the credits of a list, or its refusal
abbrev pub credited_text : Checked → List ℕ → List ℕ
credited_text (Ok tt) credits = credit_lines credits
credited_text (Err r) credits = refusal_text r

-- with so many work entries and credit places
unfoldable pub list_text : Job → ℕ → ℕ → List ℕ
list_text job entries places = credited_text (credit_checked job entries places) (credits_of job.field job.edge job.coords)

-- the file is read, and the cells of the list that it holds are credited
abbrev pub file_text : File → ℕ → ℕ → List ℕ
file_text (file job) entries places = list_text job entries places
file_text (refused r) entries places = refusal_text r

-- the credit slice then
abbrev pub file_credits : File → ℕ → List ℕ → List ℕ
file_credits (file job) entries credits = credits_after job entries credits
file_credits (refused r) entries credits = credits

-- ---- the promises
-- of a list: the text at the front, the index and the credits
pub record ListCredited (job : Job) (work credits out : List ℕ) (r : ℕ) (work' credits' out' : List ℕ) : Type 0 where
  pub text : Wrote out out' 0 r (list_text job (length work) (length credits))
  pub index : work' ≡ work_after job work
  pub credited : credits' ≡ credits_after job (length work) credits

-- of a file: also its coordinates. A refused file leaves all three slices as they were.
pub record FileCredited (bytes coords work credits out : List ℕ) (r : ℕ) (coords' work' credits' out' : List ℕ) : Type 0 where
  pub text : Wrote out out' 0 r (file_text (file_in (shot_count coords) bytes) (length work) (length credits))
  pub coordinates : coords' ≡ read_coords (file_in (shot_count coords) bytes) coords
  pub index : work' ≡ index_after (file_in (shot_count coords) bytes) work
  pub credited : credits' ≡ file_credits (file_in (shot_count coords) bytes) (length work) credits
