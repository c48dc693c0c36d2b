-- Condition 3, of what the calls answer and leave: for every accepted list, whatever its grid, order and overlaps, totals = cell counts =
-- corner sums, and the corner count is the number of corner points; the listing has each corner once, with its pattern, rising, and nothing
-- else, and the corner sums from its bytes alone are the same figures; two listings are the same bytes exactly when the two lists cure the
-- same cells. docs/SCOPE.md, 'Corner points'.
use Rattle.std.specs.Prelude.{◌≡◌, Bool, List, ◌↔◌, ◌⊎◌, ℕ, ◌*◌, true, take, Result, Ok, Err}
use Rattle.refusals.specs.declared.Refusal.{Refusal}
use Rattle.job.specs.Job.{Job}
use Rattle.lattice_sums.specs.declared.sums.Totals.{Totals}
use Rattle.measure_intake.specs.Intake.{solid, Measured}
use Rattle.measure.specs.Answers.{ListAccepts, ListRefuses}
use Rattle.measure.specs.Agreement.{Agrees, Lists, SameCells}

-- of a measured list
abbrev pub TotalsAgree : Job → Measured → Type 0
TotalsAgree job r = (t : Totals) → r ≡ Ok t → Agrees job.field (solid job) t

-- of a listed one: its totals, and its listing bytes, which are the buffer's first, 7 times the corner count of them
pub record ListingAgrees (job : Job) (t : Totals) (buffer' : List ℕ) : Type 0 where
  pub totals : Agrees job.field (solid job) t
  pub listing : Lists job.field (solid job) t (take (7 * t.corners) buffer')

abbrev pub CornersListed : Job → Measured → List ℕ → Type 0
CornersListed job r buffer' = (t : Totals) → r ≡ Ok t → ListingAgrees job t buffer'

-- what comparing two lists gives: the first refusal, or whether the listing bytes are the same
abbrev pub Compared : Type 0
Compared = Result Bool Refusal

-- of two lists, of any fields, edges, grids and orders, whose listings are compared byte by byte: the same exactly if they cure the same
-- cells; where a list is refused, by the first refusal
pub record CellsCompared (one : Job) (entries room : ℕ) (two : Job) (entries₂ room₂ : ℕ) (r : Compared) : Type 0 where
  pub same : ListAccepts one entries room → ListAccepts two entries₂ room₂ → (r ≡ Ok true) ↔ SameCells (solid one) (solid two)
  pub refuses : (q : Refusal) → (r ≡ Err q) ↔ (ListRefuses one entries room q ⊎ (ListAccepts one entries room × ListRefuses two entries₂ room₂ q))
