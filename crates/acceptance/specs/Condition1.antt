-- Condition 1: a call accepts, or names its refusal from the published list, and leaves each lent buffer in the stated state. A record for
-- each call, of its answer r and of the lent slices before and after it. docs/SCOPE.md, 'When a job is refused'.
use Rattle.std.specs.Prelude.{◌≡◌, List, ◌↔◌, ℕ, length, Ok, Err}
use Rattle.buffer.specs.Wrote.{in_front}
use Rattle.refusals.specs.Refusals.{checked_numbers, Checked}
use Rattle.refusals.specs.Tests.{first_numbers}
use Rattle.refusals.specs.Deciding.{First}
use Rattle.refusals.specs.declared.Refusal.{Refusal}
use Rattle.job.specs.Job.{Job, shot_count, Valid}
use Rattle.job.specs.declared.Stored.{Stored}
use Rattle.job.specs.Checking.{tests}
use Rattle.job.specs.Conditions.{Condition}
use Rattle.grid.specs.Grid.{index_of}
use Rattle.lattice.specs.Listing.{listing}
use Rattle.lattice_sums.specs.declared.sums.Totals.{Totals}
use Rattle.measure_intake.specs.Intake.{solid, measured_numbers, measure_tests, measure_numbers, MeasureAccepts, MeasureRefuses, Measured}
use Rattle.measure.specs.Answers.{list_numbers, ListAccepts, ListRefuses}
use Rattle.crediting.specs.Credits.{credits_of, credit_tests, CreditAccepts, CreditRefuses}
use Rattle.price_charging.specs.Charging.{Tables, priced_numbers, Priced}
use Rattle.price_charging.specs.declared.Charges.{Charges}
use Rattle.price.specs.Price.{price_numbers, PriceAccepts, PriceRefuses}
use Rattle.shotfile_reader.specs.Files.{file, file_in}
use Rattle.shotfile_reader.specs.Calls.{read_numbers, read_values}
use Rattle.shotfile_reader.specs.Conditions.{FirstFault, Faultless}
use Rattle.shotfile_reader.specs.Calls.{ReadAnswer}
use Rattle.shotfile_writer.specs.Files.{file_of}
use Rattle.shotfile_writer.specs.Calls.{written_numbers, write_values, WriteAnswer}
use Rattle.shotfile_writer.specs.Conditions.{WriteAccepts, WriteRefuses}
use Rattle.vox_voxels.specs.Voxels.{largest_side}
use Rattle.vox.specs.Vox.{voxel_count, voxels, vox_in}
use Rattle.vox.specs.Conditions.{VoxCondition}
use Rattle.vox.specs.FileOrder.{FirstInFile}

-- ---- lists
-- checking a list
pub record CheckAnswered (job : Job) (r : Checked) : Type 0 where
  -- it is accepted exactly if it is valid; a refusal is given exactly if it is the first that holds
  pub accepts : (r ≡ Ok tt) ↔ Valid job
  pub refuses : (q : Refusal) → (r ≡ Err q) ↔ First (Condition job) (tests job) q
  -- its number and its detail, or zeros
  pub numbers : checked_numbers r ≡ first_numbers (tests job)

-- making the index
pub record IndexAnswered (job : Job) (work : List ℕ) (r : Checked) (work' : List ℕ) : Type 0 where
  pub accepts : (r ≡ Ok tt) ↔ MeasureAccepts job (length work)
  pub refuses : (q : Refusal) → (r ≡ Err q) ↔ MeasureRefuses job (length work) q
  pub numbers : checked_numbers r ≡ first_numbers (measure_tests job (length work))
  -- the work slice: the index in front, or as it was
  pub stores : MeasureAccepts job (length work) → work' ≡ in_front (index_of job) work
  pub keeps : (q : Refusal) → MeasureRefuses job (length work) q → work' ≡ work

-- measuring, and counting again
pub record MeasureAnswered (job : Job) (work : List ℕ) (r : Measured) (work' : List ℕ) : Type 0 where
  -- totals are given exactly if the list is valid and the work slice has what is needed
  pub accepts : ((t : Totals) × (r ≡ Ok t)) ↔ MeasureAccepts job (length work)
  pub refuses : (q : Refusal) → (r ≡ Err q) ↔ MeasureRefuses job (length work) q
  -- the refusal's number and detail with zeros, or zeros with the totals
  pub numbers : measured_numbers r ≡ measure_numbers job (length work)
  pub stores : MeasureAccepts job (length work) → work' ≡ in_front (index_of job) work
  pub keeps : (q : Refusal) → MeasureRefuses job (length work) q → work' ≡ work

-- listing: 11 leaves the finished index
pub record ListAnswered (job : Job) (work buffer : List ℕ) (r : Measured) (work' buffer' : List ℕ) : Type 0 where
  pub accepts : ((t : Totals) × (r ≡ Ok t)) ↔ ListAccepts job (length work) (length buffer)
  pub refuses : (q : Refusal) → (r ≡ Err q) ↔ ListRefuses job (length work) (length buffer) q
  pub numbers : measured_numbers r ≡ list_numbers job (length work) (length buffer)
  pub index_stored : MeasureAccepts job (length work) → work' ≡ in_front (index_of job) work
  pub index_kept : (q : Refusal) → MeasureRefuses job (length work) q → work' ≡ work
  -- the listing buffer: the listing in front, or as it was
  pub stores : ListAccepts job (length work) (length buffer) → buffer' ≡ in_front (listing job.field (solid job)) buffer
  pub keeps : (q : Refusal) → ListRefuses job (length work) (length buffer) q → buffer' ≡ buffer

-- crediting: 16 leaves the finished index
pub record CreditAnswered (job : Job) (work credits : List ℕ) (r : Checked) (work' credits' : List ℕ) : Type 0 where
  pub accepts : (r ≡ Ok tt) ↔ CreditAccepts job (length work) (length credits)
  pub refuses : (q : Refusal) → (r ≡ Err q) ↔ CreditRefuses job (length work) (length credits) q
  pub numbers : checked_numbers r ≡ first_numbers (credit_tests job (length work) (length credits))
  pub index_stored : MeasureAccepts job (length work) → work' ≡ in_front (index_of job) work
  pub index_kept : (q : Refusal) → MeasureRefuses job (length work) q → work' ≡ work
  -- the credit slice: the credits in front, or as it was
  pub stores : CreditAccepts job (length work) (length credits) → credits' ≡ in_front (credits_of job.field job.edge job.coords) credits
  pub keeps : (q : Refusal) → CreditRefuses job (length work) (length credits) q → credits' ≡ credits

-- pricing: 18 leaves the finished index; `price` of prices promises it
pub record PriceAnswered (job : Job) (work : List ℕ) (t : Tables) (r : Priced) (work' : List ℕ) : Type 0 where
  -- charges are given exactly if the list is valid, the work slice has what is needed and the three tables are valid
  pub accepts : ((c : Charges) × (r ≡ Ok c)) ↔ PriceAccepts job (length work) t
  pub refuses : (q : Refusal) → (r ≡ Err q) ↔ PriceRefuses job (length work) t q
  -- the refusal's number and detail with zeros, or zeros with the charges
  pub numbers : priced_numbers r ≡ price_numbers job (length work) t
  pub index_stored : MeasureAccepts job (length work) → work' ≡ in_front (index_of job) work
  pub index_kept : (q : Refusal) → MeasureRefuses job (length work) q → work' ≡ work

-- ---- files
-- writing
pub record WriteAnswered (job : Job) (bytes : List ℕ) (r : WriteAnswer) (bytes' : List ℕ) : Type 0 where
  pub accepts : ((n : ℕ) × (r ≡ Ok n)) ↔ WriteAccepts job (length bytes)
  pub refuses : (q : Refusal) → (r ≡ Err q) ↔ WriteRefuses job (length bytes) q
  pub numbers : written_numbers r ≡ write_values job (length bytes)
  -- the byte buffer: the file in front, or as it was
  pub stores : WriteAccepts job (length bytes) → bytes' ≡ in_front (file_of job) bytes
  pub keeps : (q : Refusal) → WriteRefuses job (length bytes) q → bytes' ≡ bytes

-- reading: the first faulty record decides
pub record ReadAnswered (bytes coords : List ℕ) (r : ReadAnswer) (coords' : List ℕ) : Type 0 where
  pub accepts : ((list : Stored) × (r ≡ Ok list)) ↔ Faultless (shot_count coords) bytes
  pub refuses : (q : Refusal) → (r ≡ Err q) ↔ FirstFault (shot_count coords) bytes q
  pub numbers : read_numbers r ≡ read_values (file_in (shot_count coords) bytes)
  -- the coordinate slice: the file's list in front, or as it was
  pub stores : (job : Job) → file_in (shot_count coords) bytes ≡ file job → coords' ≡ in_front job.coords coords
  pub keeps : (q : Refusal) → FirstFault (shot_count coords) bytes q → coords' ≡ coords

-- reading a VOX file: no condition holds, or the first in file order
abbrev pub VoxAccepts : ℕ → List ℕ → Type 0
VoxAccepts places bytes = (q : Refusal) → ¬ VoxCondition places bytes q

abbrev pub VoxRefuses : ℕ → List ℕ → Refusal → Type 0
VoxRefuses places bytes = FirstInFile (VoxCondition places bytes)

pub record VoxAnswered (bytes coords : List ℕ) (r : ReadAnswer) (coords' : List ℕ) : Type 0 where
  pub accepts : (r ≡ Ok (record { field = largest_side bytes; edge = 1; grid = 1; shots = voxel_count bytes })) ↔ VoxAccepts (shot_count coords) bytes
  pub refuses : (q : Refusal) → (r ≡ Err q) ↔ VoxRefuses (shot_count coords) bytes q
  pub numbers : read_numbers r ≡ read_values (vox_in (shot_count coords) bytes)
  -- the coordinate slice: the voxels in front, or as it was
  pub stores : VoxAccepts (shot_count coords) bytes → coords' ≡ in_front (voxels bytes 0 (voxel_count bytes)) coords
  pub keeps : (q : Refusal) → VoxRefuses (shot_count coords) bytes q → coords' ≡ coords
