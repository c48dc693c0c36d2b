-- What a call from another language leaves: its numbers in a lent slice of 64-bit places, if that has a place for each; and 1 or 0
-- back. A call whose numbers do not fit changes nothing. Each record is the promise of the calls that it names.
use Rattle.std.specs.Prelude.{◌≡◌, Bool, cond, List, ℕ, leb, length}
use Rattle.job.specs.Job.{Job, shot_count}
use Rattle.refusals.specs.Tests.{first_numbers}
use Rattle.grid_cover.specs.Cover.{first_covering}
use Rattle.measure_intake.specs.Intake.{measure_tests, measure_numbers, work_after}
use Rattle.measure.specs.Answers.{list_numbers, listing_after}
use Rattle.crediting.specs.Credits.{credit_tests, credits_after}
use Rattle.price_charging.specs.Charging.{Tables}
use Rattle.price.specs.Price.{price_numbers}
use Rattle.shotfile_reader.specs.Files.{file_in}
use Rattle.buffer.specs.Wrote.{in_front}
use Rattle.section.specs.Section.{places_of}
use Rattle.capi_answers.specs.Places.{index_places, measure_places, price_places, cover_places, part_places}
use Rattle.shotfile_reader.specs.Calls.{read_values, read_coords}
use Rattle.shotfile_writer.specs.Calls.{write_values, write_bytes}
use Rattle.vox.specs.Vox.{vox_in}

-- ---- told where they fit
-- a lent slice has a place for each number
abbrev pub fits : List ℕ → List ℕ → Bool
fits numbers answer = leb (length numbers) (length answer)

-- 1 back, and the numbers in the first places; otherwise 0 back, and the slice as it was
pub record Told (numbers answer : List ℕ) (r : ℕ) (answer' : List ℕ) : Type 0 where
  pub gives : r ≡ cond (fits numbers answer) 1 0
  pub answered : answer' ≡ cond (fits numbers answer) (in_front numbers answer) answer

-- ---- the numbers that each call tells
abbrev pub index_tells : Job → List ℕ → List ℕ
index_tells job work = index_places (first_numbers (measure_tests job (length work)))

abbrev pub measure_tells : Job → List ℕ → List ℕ
measure_tells job work = measure_places (measure_numbers job (length work))

abbrev pub list_tells : Job → List ℕ → List ℕ → List ℕ
list_tells job work buffer = measure_places (list_numbers job (length work) (length buffer))

abbrev pub corners_at_tells : List ℕ → ℕ → List ℕ
corners_at_tells listing x = part_places (places_of listing x)

abbrev pub credit_tells : Job → List ℕ → List ℕ → List ℕ
credit_tells job work credits = index_places (first_numbers (credit_tests job (length work) (length credits)))

abbrev pub price_tells : Job → List ℕ → Tables → List ℕ
price_tells job work t = price_places (price_numbers job (length work) t)

abbrev pub covers_tells : ℕ → List ℕ → List ℕ → ℕ → ℕ → ℕ → List ℕ
covers_tells E coords run i j k = cover_places (first_covering E coords run i j k)

abbrev pub read_tells : List ℕ → List ℕ → List ℕ
read_tells bytes coords = read_values (file_in (shot_count coords) bytes)

abbrev pub vox_tells : List ℕ → List ℕ → List ℕ
vox_tells bytes coords = read_values (vox_in (shot_count coords) bytes)

abbrev pub write_tells : Job → List ℕ → List ℕ
write_tells job bytes = write_values job (length bytes)

-- ---- the promises
-- `heqdanu_index`
pub record IndexTold (job : Job) (work answer : List ℕ) (r : ℕ) (work' answer' : List ℕ) : Type 0 where
  pub told : Told (index_tells job work) answer r answer'
  pub index : work' ≡ cond (fits (index_tells job work) answer) (work_after job work) work

-- `heqdanu_measure` and `heqdanu_recount`
pub record MeasureTold (job : Job) (work answer : List ℕ) (r : ℕ) (work' answer' : List ℕ) : Type 0 where
  pub told : Told (measure_tells job work) answer r answer'
  pub index : work' ≡ cond (fits (measure_tells job work) answer) (work_after job work) work

-- `heqdanu_list`
pub record ListTold (job : Job) (work buffer answer : List ℕ) (r : ℕ) (work' buffer' answer' : List ℕ) : Type 0 where
  pub told : Told (list_tells job work buffer) answer r answer'
  pub index : work' ≡ cond (fits (list_tells job work buffer) answer) (work_after job work) work
  pub listing : buffer' ≡ cond (fits (list_tells job work buffer) answer) (listing_after job (length work) buffer) buffer

-- `heqdanu_corners_at`
pub record CornersAtTold (listing : List ℕ) (x : ℕ) (answer : List ℕ) (r : ℕ) (answer' : List ℕ) : Type 0 where
  pub told : Told (corners_at_tells listing x) answer r answer'

-- `heqdanu_credit`
pub record CreditTold (job : Job) (work credits answer : List ℕ) (r : ℕ) (work' credits' answer' : List ℕ) : Type 0 where
  pub told : Told (credit_tells job work credits) answer r answer'
  pub index : work' ≡ cond (fits (credit_tells job work credits) answer) (work_after job work) work
  pub credited : credits' ≡ cond (fits (credit_tells job work credits) answer) (credits_after job (length work) credits) credits

-- `heqdanu_price`
pub record PriceTold (job : Job) (work : List ℕ) (t : Tables) (answer : List ℕ) (r : ℕ) (work' answer' : List ℕ) : Type 0 where
  pub told : Told (price_tells job work t) answer r answer'
  pub index : work' ≡ cond (fits (price_tells job work t) answer) (work_after job work) work

-- `heqdanu_covers`
pub record CoversTold (E : ℕ) (coords run : List ℕ) (i j k : ℕ) (answer : List ℕ) (r : ℕ) (answer' : List ℕ) : Type 0 where
  pub told : Told (covers_tells E coords run i j k) answer r answer'

-- `heqdanu_read`
pub record ReadTold (bytes coords answer : List ℕ) (r : ℕ) (coords' answer' : List ℕ) : Type 0 where
  pub told : Told (read_tells bytes coords) answer r answer'
  pub coordinates : coords' ≡ cond (fits (read_tells bytes coords) answer) (read_coords (file_in (shot_count coords) bytes) coords) coords

-- `heqdanu_read_vox`
pub record VoxTold (bytes coords answer : List ℕ) (r : ℕ) (coords' answer' : List ℕ) : Type 0 where
  pub told : Told (vox_tells bytes coords) answer r answer'
  pub coordinates : coords' ≡ cond (fits (vox_tells bytes coords) answer) (read_coords (vox_in (shot_count coords) bytes) coords) coords

-- `heqdanu_write`
pub record WriteTold (job : Job) (bytes answer : List ℕ) (r : ℕ) (bytes' answer' : List ℕ) : Type 0 where
  pub told : Told (write_tells job bytes) answer r answer'
  pub file : bytes' ≡ cond (fits (write_tells job bytes) answer) (write_bytes job bytes) bytes
