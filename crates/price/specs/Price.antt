-- What the price call answers and leaves: docs/SCOPE.md, 'Price bands' and 'When a job is refused'. `PriceCall` is the promise of the call.
use Rattle.std.specs.Prelude.{◌≡◌, List, ◌++◌, ◌⊎◌, ℕ, length}
use Rattle.lattice.specs.Cells.{Cells, volume, area, edge_length}
use Rattle.job.specs.Job.{Job}
use Rattle.refusals.specs.Tests.{Test, first_of}
use Rattle.refusals.specs.declared.Refusal.{Refusal}
use Rattle.measure_intake.specs.Intake.{solid, measure_tests, work_after, MeasureAccepts, MeasureRefuses}
use Rattle.price_charging.specs.Charging.{Tables, table_tests, ValidTables, TableRefuses, charges_of, priced_by, PricedNumbers, priced_numbers, priced_numbers_by, Priced}
use Rattle.price_charging.specs.declared.Charges.{Charges}
use Rattle.refusals.specs.Refusals.{Checked}

-- ---- the tests of pricing: those of measuring, and then 18
unfoldable pub price_tests : Job → ℕ → Tables → List Test
price_tests job entries t = measure_tests job entries ++ table_tests t

abbrev pub price_checked : Job → ℕ → Tables → Checked
price_checked job entries t = first_of (price_tests job entries t)

-- ---- the charges of a solid: for its volume, its area and the length of its outer edges
abbrev pub solid_charges : Tables → ℕ → Cells → Charges
solid_charges t F s = charges_of t (volume F s) (area F s) (edge_length F s)

-- ---- what is answered
unfoldable pub price_answer : Job → ℕ → Tables → Priced
price_answer job entries t = priced_by (price_checked job entries t) (solid_charges t job.field (solid job))

unfoldable pub price_numbers : Job → ℕ → Tables → PricedNumbers
price_numbers job entries t = priced_numbers_by (price_checked job entries t) (solid_charges t job.field (solid job))

-- ---- the promise: the work slice is as measuring leaves it, at 18 too
pub record PriceCall (job : Job) (work : List ℕ) (t : Tables) (r : Priced) (work' : List ℕ) : Type 0 where
  pub answer : r ≡ price_answer job (length work) t
  pub numbers : priced_numbers r ≡ price_numbers job (length work) t
  pub index : work' ≡ work_after job work

-- ---- when a list is priced, and when it is refused
abbrev pub PriceAccepts : Job → ℕ → Tables → Type 0
PriceAccepts job entries t = MeasureAccepts job entries × ValidTables t

-- as measuring does; by 18 if measuring accepts and a table is not valid
abbrev pub PriceRefuses : Job → ℕ → Tables → Refusal → Type 0
PriceRefuses job entries t r = MeasureRefuses job entries r ⊎ (MeasureAccepts job entries × TableRefuses t r)
