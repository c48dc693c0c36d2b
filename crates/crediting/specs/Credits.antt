-- The credits of a list's shots, and what the crediting call answers and leaves: docs/SCOPE.md, 'Credits' and 'When a job is refused'.
-- `CreditCall` is the promise of the call.
use Rattle.std.specs.Prelude.{◌≡◌, List, [], ◌∷◌, ◌++◌, ◌⊎◌, ℕ, ◌≤◌, ◌<◌, length}
use Rattle.ground.specs.Sums.{join}
use Rattle.lattice.specs.Cells.{Cells, volume}
use Rattle.job.specs.Job.{Job, shot_count}
use Rattle.refusals.specs.Refusals.{checked_numbers, Checked}
use Rattle.refusals.specs.Tests.{length_test, if_accepted, Test, first_of, first_numbers}
use Rattle.refusals.specs.declared.Refusal.{Refusal}
use Rattle.refusals.specs.declared.Refusal.TheVariants.{ShortCredits}
use Rattle.grid_cover.specs.Cover.{names, lowest_covering}
use Rattle.measure_intake.specs.Intake.{measure_tests, work_after, MeasureAccepts, MeasureRefuses}
use Rattle.buffer.specs.Wrote.{in_front}
use Rattle.refusals.specs.Deciding.{Gives}

-- ---- credits, of shots in a field: the grid has no part in them
-- the cells of which shot s is the lowest covering shot
abbrev pub credited_to : ℕ → List ℕ → ℕ → Cells
credited_to E coords s i j k = names (lowest_covering E coords i j k) s

-- how many of them there are in the field: the shot's credit
unfoldable pub credit_of : ℕ → ℕ → List ℕ → ℕ → ℕ
credit_of F E coords s = volume F (credited_to E coords s)

-- the credits of all shots, in the order of the list
unfoldable pub credits_of : ℕ → ℕ → List ℕ → List ℕ
credits_of F E coords = join (shot_count coords) λ s. credit_of F E coords s ∷ []

-- ---- the checks
-- refusal 16: a credit slice of so many places has fewer than there are shots
abbrev pub short_credits : List ℕ → ℕ → Test
short_credits coords places = length_test places (shot_count coords) (ShortCredits (shot_count coords))

-- the tests of crediting: those of measuring, and then 16
unfoldable pub credit_tests : Job → ℕ → ℕ → List Test
credit_tests job entries places = measure_tests job entries ++ short_credits job.coords places ∷ []

abbrev pub credit_checked : Job → ℕ → ℕ → Checked
credit_checked job entries places = first_of (credit_tests job entries places)

-- ---- what is left
-- the credits, and the places past the shots as they were
unfoldable pub credits_after : Job → ℕ → List ℕ → List ℕ
credits_after job entries credits =
    if_accepted (credit_checked job entries (length credits)) (λ r. credits) (in_front (credits_of job.field job.edge job.coords) credits)

-- ---- the promise
pub record CreditCall (job : Job) (work credits : List ℕ) (r : Checked) (work' credits' : List ℕ) : Type 0 where
  pub answer : r ≡ credit_checked job (length work) (length credits)
  pub numbers : checked_numbers r ≡ first_numbers (credit_tests job (length work) (length credits))
  pub index : work' ≡ work_after job work
  pub credited : credits' ≡ credits_after job (length work) credits

-- ---- when a list is accepted, and when it is refused
abbrev pub CreditAccepts : Job → ℕ → ℕ → Type 0
CreditAccepts job entries places = MeasureAccepts job entries × (shot_count job.coords ≤ places)

-- as measuring does; by 16 if measuring accepts and the credit slice is short
abbrev pub CreditRefuses : Job → ℕ → ℕ → Refusal → Type 0
CreditRefuses job entries places r =
    MeasureRefuses job entries r
    ⊎ (MeasureAccepts job entries × Gives (places < shot_count job.coords) (ShortCredits (shot_count job.coords)) r)
