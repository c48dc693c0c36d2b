-- What the intake of a list answers and leaves in the work slice, and what measuring answers: docs/SCOPE.md, 'The grid index' and 'When a
-- job is refused'. A list covers the cells `solid`; the totals are its cell counts. `IndexCall` and `MeasureCall` are the promises of
-- the calls.
use Rattle.std.specs.Prelude.{◌≡◌, List, [], ◌∷◌, ◌++◌, ◌⊎◌, ℕ, ◌≤◌, ◌<◌, length, Result, Ok, Err}
use Rattle.lattice.specs.Cells.{Cells}
use Rattle.lattice.specs.Shots.{cells}
use Rattle.lattice_sums.specs.CornerSums.{totals_of}
use Rattle.lattice_sums.specs.declared.sums.Totals.{Totals}
use Rattle.job.specs.Job.{Job, shots, Valid}
use Rattle.refusals.specs.Refusals.{number_of, detail_of, checked_numbers, Checked}
use Rattle.refusals.specs.Tests.{Test, length_test, first_of, first_numbers, if_accepted}
use Rattle.job.specs.Checking.{tests}
use Rattle.job.specs.Conditions.{Condition}
use Rattle.refusals.specs.Deciding.{First, Gives}
use Rattle.refusals.specs.declared.Refusal.{Refusal}
use Rattle.refusals.specs.declared.Refusal.TheVariants.{ShortWork}
use Rattle.buffer.specs.Wrote.{in_front}
use Rattle.grid.specs.Grid.{index_of, need}

-- the cells that a list covers
abbrev pub solid : Job → Cells
solid job = cells (shots job)

-- what measuring answers: the totals of a list and its corner count, or why there are none
abbrev pub Measured : Type 0
Measured = Result Totals Refusal

-- ---- the numbers of an answer
-- the refusal's number and detail, 0 and 0 where there is none, and what is measured
pub record MeasuredNumbers : Type 0 where
  pub number : ℕ
  pub detail : ℕ
  pub totals : Totals

-- a quote has its totals and its corner count
abbrev pub quote_numbers : Totals → MeasuredNumbers
quote_numbers t = record { number = 0; detail = 0; totals = t }

-- a refusal has its number and detail, with all others 0
abbrev pub refused_numbers : Refusal → MeasuredNumbers
refused_numbers r = record { number = number_of r; detail = detail_of r; totals = record { volume = 0; area = 0; edge = 0; inner = 0; corners = 0 } }

unfoldable pub measured_numbers : Measured → MeasuredNumbers
measured_numbers (Ok t) = quote_numbers t
measured_numbers (Err r) = refused_numbers r

-- ---- the checks
-- refusal 10: a work slice of so many entries is shorter than needed
abbrev pub short_work : Job → ℕ → Test
short_work job entries = length_test entries (need job) (ShortWork (need job))

-- the tests of measuring: 1, 2, 6, 7, 8, 9 of the list, and then 10
unfoldable pub measure_tests : Job → ℕ → List Test
measure_tests job entries = tests job ++ short_work job entries ∷ []

abbrev pub measure_checked : Job → ℕ → Checked
measure_checked job entries = first_of (measure_tests job entries)

-- ---- what is answered and left, by the checks
-- a refusal, or the totals
abbrev pub answer_of : Checked → ℕ → Cells → Measured
answer_of c F s = if_accepted c Err (Ok (totals_of F s))

-- and the numbers: of a refusal its own, otherwise the cell counts and the corner count
abbrev pub numbers_after : Checked → ℕ → Cells → MeasuredNumbers
numbers_after c F s = if_accepted c refused_numbers (quote_numbers (totals_of F s))

unfoldable pub measure_answer : Job → ℕ → Measured
measure_answer job entries = answer_of (measure_checked job entries) job.field (solid job)

unfoldable pub measure_numbers : Job → ℕ → MeasuredNumbers
measure_numbers job entries = numbers_after (measure_checked job entries) job.field (solid job)

-- the work slice: the finished index and the entries past it, or as it was; 11 and 16 come after the index
unfoldable pub work_after : Job → List ℕ → List ℕ
work_after job work = if_accepted (measure_checked job (length work)) (λ r. work) (in_front (index_of job) work)

-- ---- the promises
-- the intake of a list: what it answers of the list and a work slice, and what the slice is then
pub record IndexCall (job : Job) (work : List ℕ) (r : Checked) (work' : List ℕ) : Type 0 where
  pub answer : r ≡ measure_checked job (length work)
  pub numbers : checked_numbers r ≡ first_numbers (measure_tests job (length work))
  pub index : work' ≡ work_after job work

-- measuring a list
pub record MeasureCall (job : Job) (work : List ℕ) (r : Measured) (work' : List ℕ) : Type 0 where
  pub answer : r ≡ measure_answer job (length work)
  pub numbers : measured_numbers r ≡ measure_numbers job (length work)
  pub index : work' ≡ work_after job work

-- ---- when a list is accepted, and when it is refused
abbrev pub MeasureAccepts : Job → ℕ → Type 0
MeasureAccepts job entries = Valid job × (need job ≤ entries)

-- by the first of 1, 2, 6, 7, 8, 9 whose condition holds; by 10 if none does and the work slice is short
abbrev pub MeasureRefuses : Job → ℕ → Refusal → Type 0
MeasureRefuses job entries r =
    First (Condition job) (tests job) r
    ⊎ (Valid job × Gives (entries < need job) (ShortWork (need job)) r)
