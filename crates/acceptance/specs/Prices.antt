-- Request (viii), price bands that shops edit: docs/SCOPE.md, 'Price bands', and 'When a job is refused', 18.
use Rattle.std.specs.Prelude.{◌≡◌, List, ◌↔◌, ℕ, ◌≤◌, ◌<◌, length, Ok}
use Rattle.lattice.specs.Cells.{volume, area, edge_length}
use Rattle.job.specs.Job.{Job}
use Rattle.measure_intake.specs.Intake.{solid}
use Rattle.price_bands.specs.Bands.{top, band_at, In, ValidTable, Fault, Verdict, no_fault, fault_at, RatedBy}
use Rattle.price_bands.specs.declared.Band.{Band}
use Rattle.price_charging.specs.Charging.{Tables, ChargedBy, Priced}
use Rattle.price_charging.specs.declared.Charges.{Charges}
use Rattle.acceptance.specs.Condition1.{PriceAnswered}

-- ---- the check: no fault exactly if the table is valid, and this fault exactly if it is the first
pub record TableChecked (bands : List Band) (r : Verdict) : Type 0 where
  pub sound : (r ≡ no_fault) ↔ ValidTable bands
  pub faulty : (band : ℕ) → (r ≡ fault_at band) ↔ Fault bands band

-- ---- the lookup
pub record LookedUp (bands : List Band) (amount rate : ℕ) : Type 0 where
  -- every amount up to the top lies in one band of a valid table and in no other, and the rate is that band's
  pub valid : ValidTable bands → amount ≤ top → RatedBy bands amount rate
  -- of any bands: the rate of the first that holds the amount, and 0 where none does
  pub first : (i : ℕ) → i < length bands → In (band_at bands i) amount → ((j : ℕ) → j < i → ¬ In (band_at bands j) amount) → rate ≡ (band_at bands i).cents
  pub none : ((i : ℕ) → i < length bands → ¬ In (band_at bands i) amount) → rate ≡ 0

-- ---- the price call
-- three charges, each the whole amount times the rate of the band that holds it: for volume, area and outer edges
pub record ChargesRight (job : Job) (t : Tables) (c : Charges) : Type 0 where
  pub volume_charge : ChargedBy t.volume (volume job.field (solid job)) c.volume
  pub area_charge : ChargedBy t.area (area job.field (solid job)) c.area
  pub edge_charge : ChargedBy t.edges (edge_length job.field (solid job)) c.edge

pub record ListPriced (job : Job) (work : List ℕ) (t : Tables) (r : Priced) (work' : List ℕ) : Type 0 where
  -- it accepts, refuses and leaves the work slice as published
  pub answered : PriceAnswered job work t r work'
  pub charges : (c : Charges) → r ≡ Ok c → ChargesRight job t c
