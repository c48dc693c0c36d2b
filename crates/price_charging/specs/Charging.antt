-- What is charged by three tables, and the tests of the tables behind any tests: docs/SCOPE.md, 'Price bands' and 'When a job is refused', 18.
-- The tests are a list of their own, and charging takes amounts and knows no totals: another amount, or another test in front, moves nothing
-- here.
use Rattle.std.specs.Prelude.{◌≡◌, Bool, true, false, List, [], ◌∷◌, ℕ, ◌*◌, ◌<◌, ◌^◌, Result, Ok, Err}
use Rattle.refusals.specs.Refusals.{number_of, detail_of, Checked}
use Rattle.refusals.specs.Tests.{Test, if_accepted}
use Rattle.refusals.specs.declared.Refusal.{Refusal}
use Rattle.refusals.specs.declared.Refusal.TheVariants.{InvalidTable}
use Rattle.price_bands.specs.Bands.{Verdict, ValidTable, Fault, RatedBy, verdict_of, rate_of}
use Rattle.price_bands.specs.declared.Band.{Band}
use Rattle.price_charging.specs.declared.Charges.{Charges}
use Rattle.price_charging.specs.declared.Taken.{Taken}

-- the three tables of a shop
pub record Tables : Type 0 where
  pub volume : List Band
  pub area : List Band
  pub edges : List Band

-- ---- the tests
-- refusal 18: a table has a fault
abbrev pub is_faulty : Verdict → Bool
is_faulty (Ok tt) = false
is_faulty (Err fault) = true

abbrev pub faulty_band : Verdict → ℕ
faulty_band (Ok tt) = 0
faulty_band (Err fault) = fault.band

abbrev pub verdict_test : Verdict → Test
verdict_test v = record { holds = is_faulty v; gives = InvalidTable (faulty_band v) }

-- of the tables of volume, of area, of edges, in this order
abbrev pub table_tests : Tables → List Test
table_tests t = verdict_test (verdict_of t.volume) ∷ verdict_test (verdict_of t.area) ∷ verdict_test (verdict_of t.edges) ∷ []

-- ---- when they accept, and when they refuse
pub record ValidTables (t : Tables) : Type 0 where
  pub volume_valid : ValidTable t.volume
  pub area_valid : ValidTable t.area
  pub edges_valid : ValidTable t.edges

-- the first of the three tables that is not valid, with what is wrong with it
pub data TableRefuses (t : Tables) : Refusal → Type 0 where
  volume_table : {band : ℕ} → Fault t.volume band → TableRefuses t (InvalidTable band)
  area_table : {band : ℕ} → ValidTable t.volume → Fault t.area band → TableRefuses t (InvalidTable band)
  edge_table : {band : ℕ} → ValidTable t.volume → ValidTable t.area → Fault t.edges band → TableRefuses t (InvalidTable band)

-- ---- the charges
-- a charge is the whole amount times the rate of the one band that holds it
pub record ChargedBy (bands : List Band) (amount charge : ℕ) : Type 0 where
  pub rate : ℕ
  pub rated : RatedBy bands amount rate
  pub is_charge : charge ≡ amount * rate

-- by computing: of a volume, an area and an edge length
abbrev pub charges_of : Tables → ℕ → ℕ → ℕ → Charges
charges_of t v a e = record { volume = v * rate_of v t.volume; area = a * rate_of a t.area; edge = e * rate_of e t.edges }

-- ---- what is answered, by the checks: the charges of a list, or why there are none
abbrev pub Priced : Type 0
Priced = Result Charges Refusal

abbrev pub priced_by : Checked → Charges → Priced
priced_by c charges = if_accepted c Err (Ok charges)

-- the numbers of an answer: the refusal's number and detail, 0 and 0 where there is none, and the charges, 0 where there is one
pub record PricedNumbers : Type 0 where
  pub number : ℕ
  pub detail : ℕ
  pub charges : Charges

abbrev pub charged_numbers : Charges → PricedNumbers
charged_numbers c = record { number = 0; detail = 0; charges = c }

abbrev pub unpriced_numbers : Refusal → PricedNumbers
unpriced_numbers r = record { number = number_of r; detail = detail_of r; charges = record { volume = 0; area = 0; edge = 0 } }

unfoldable pub priced_numbers : Priced → PricedNumbers
priced_numbers (Ok c) = charged_numbers c
priced_numbers (Err r) = unpriced_numbers r

abbrev pub priced_numbers_by : Checked → Charges → PricedNumbers
priced_numbers_by c charges = if_accepted c unpriced_numbers (charged_numbers charges)

-- ---- the words of the functions
-- one table more
abbrev pub checked_after : Checked → Verdict → Checked
checked_after (Err r) v = Err r
checked_after (Ok _) (Ok _) = Ok tt
checked_after (Ok _) (Err fault) = Err (InvalidTable fault.band)

-- three tables more
abbrev pub checked_after_three : Checked → Verdict → Verdict → Verdict → Checked
checked_after_three c v a e = checked_after (checked_after (checked_after c v) a) e

-- no charge by a table without fault wraps
pub record Chargeable (t : Taken) (v a e : Verdict) (v-rate a-rate e-rate : ℕ) : Type 0 where
  pub volume_fits : v ≡ Ok tt → t.volume * v-rate < 2 ^ 64
  pub area_fits : a ≡ Ok tt → t.area * a-rate < 2 ^ 64
  pub edge_fits : e ≡ Ok tt → t.edge * e-rate < 2 ^ 64

abbrev pub charged_of : Taken → Verdict → Verdict → Verdict → ℕ → ℕ → ℕ → Priced
charged_of t v a e v-rate a-rate e-rate =
    priced_by (checked_after_three t.checked v a e)
    (record { volume = t.volume * v-rate; area = t.area * a-rate; edge = t.edge * e-rate })
