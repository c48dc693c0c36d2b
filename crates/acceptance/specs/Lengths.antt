-- Request (v): edge length counts unit edges with one covered cell, and twice those with two that touch only there; inner length counts those
-- with three; each is the sum of its own point weights too. docs/SCOPE.md, 'Cells and totals' and 'Corner points'.
use Rattle.std.specs.Prelude.{◌≡◌, ◌+◌, Ok}
use Rattle.lattice.specs.Cells.{edge_length, inner_length, length_by, either_edge}
use Rattle.lattice.specs.Figures.{EdgeLength, InnerLength, term}
use Rattle.lattice.specs.Listing.{corners, corner_sum}
use Rattle.lattice_sums.specs.CornerSums.{value}
use Rattle.lattice_sums.specs.declared.sums.Totals.{Totals}
use Rattle.job.specs.Job.{Job}
use Rattle.measure_intake.specs.Intake.{solid, Measured}

pub record LengthsCounted (job : Job) (t : Totals) : Type 0 where
  pub edge : t.edge ≡ edge_length job.field (solid job)
  pub inner : t.inner ≡ inner_length job.field (solid job)
  -- by corner sums
  pub edge_sum : value EdgeLength t ≡ corner_sum (term EdgeLength) (corners job.field (solid job))
  pub inner_sum : value InnerLength t ≡ corner_sum (term InnerLength) (corners job.field (solid job))
  -- together they are the length by a count that takes one and three covered cells alike
  pub together : t.edge + t.inner ≡ length_by either_edge job.field (solid job)

abbrev pub BothLengths : Job → Measured → Type 0
BothLengths job r = (t : Totals) → r ≡ Ok t → LengthsCounted job t
