-- A table of price bands: what a valid one is, what is wrong with one that is not, and the band that holds an amount: docs/SCOPE.md, 'Price
-- bands'. Nothing here is about a list or its totals. `verdict_of` and `rate_of` are what the check and the lookup answer.
use Rattle.std.specs.Prelude.{◌≡◌, Bool, cond, ◌&&◌, List, [], ◌∷◌, ℕ, zero, suc, ◌+◌, ◌≤◌, ◌<◌, leb, ltb, eqb, length, get_or, Result, Ok, Err}
use Rattle.price_bands.specs.declared.Band.{Band}
use Rattle.price_bands.specs.declared.FaultyBand.{FaultyBand}

-- ---- amounts and bands
-- the largest amount, 2⁴⁰; the highest rate; how many bands a table may have
abbrev pub top : ℕ
top = 1099511627776

abbrev pub highest_rate : ℕ
highest_rate = 10000

abbrev pub most_bands : ℕ
most_bands = 64

-- what lies past the end of a table
abbrev pub no_band : Band
no_band = record { first = 0; last = 0; cents = 0 }

-- band i, from 0
abbrev pub band_at : List Band → ℕ → Band
band_at bands i = get_or bands i no_band

-- an amount lies in a band
pub record In (b : Band) (amount : ℕ) : Type 0 where
  pub from : b.first ≤ amount
  pub to : amount ≤ b.last

-- where band i has to start: the first at 0, any other one past the end of the band before
abbrev pub due_at : List Band → ℕ → ℕ
due_at bands zero = 0
due_at bands (suc i) = (band_at bands i).last + 1

-- a band without fault: it starts where it has to, ends neither before its start nor past the top, and its rate is not too high
pub record Good (due : ℕ) (b : Band) : Type 0 where
  pub starts : b.first ≡ due
  pub ends : b.first ≤ b.last
  pub below_top : b.last ≤ top
  pub rate : b.cents ≤ highest_rate

-- ---- a valid table: at most 64 bands without gap or overlap from 0 to the top, with rates in range
pub record ValidTable (bands : List Band) : Type 0 where
  pub few : length bands ≤ most_bands
  pub good : (i : ℕ) → i < length bands → Good (due_at bands i) (band_at bands i)
  pub reaches_top : due_at bands (length bands) ≡ top + 1

-- ---- and what is wrong with any other
-- band i is faulty, and no earlier one is
pub record FirstFaulty (bands : List Band) (i : ℕ) : Type 0 where
  pub is_band : i < length bands
  pub faulty : ¬ Good (due_at bands i) (band_at bands i)
  pub earlier_good : (j : ℕ) → j < i → Good (due_at bands j) (band_at bands j)

-- the detail of a faulty table
pub data Fault (bands : List Band) : ℕ → Type 0 where
  too_many : most_bands < length bands → Fault bands most_bands
  band_faulty : {i : ℕ} → length bands ≤ most_bands → FirstFaulty bands i → Fault bands i
  no_top : length bands ≤ most_bands → ((i : ℕ) → i < length bands → Good (due_at bands i) (band_at bands i))
      → ¬ (due_at bands (length bands) ≡ top + 1) → Fault bands (length bands)

-- ---- the same by computing
-- a band that has to start at this amount is without fault
abbrev pub is_good : ℕ → Band → Bool
is_good due b = eqb b.first due && (leb b.first b.last && (leb b.last top && leb b.cents highest_rate))

-- the first faulty band, where the first has to start at this amount; the number of bands where none is
unfoldable pub first_faulty : ℕ → List Band → ℕ
first_faulty due [] = 0
first_faulty due (b ∷ bs) = cond (is_good due b) (suc (first_faulty (b.last + 1) bs)) 0

-- one past the last amount
unfoldable pub end_of : ℕ → List Band → ℕ
end_of due [] = due
end_of due (b ∷ bs) = end_of (b.last + 1) bs

-- what the check says: nothing against a table, or its fault
abbrev pub Verdict : Type 0
Verdict = Result (Unit {0}) FaultyBand

abbrev pub no_fault : Verdict
no_fault = Ok tt

abbrev pub fault_at : ℕ → Verdict
fault_at d = Err (record { band = d })

unfoldable pub verdict_of : List Band → Verdict
verdict_of bands =
    cond (ltb most_bands (length bands)) (fault_at most_bands)
    (cond (ltb (first_faulty 0 bands) (length bands)) (fault_at (first_faulty 0 bands))
    (cond (eqb (end_of 0 bands) (top + 1)) no_fault (fault_at (length bands))))

-- ---- the rate of an amount
abbrev pub holds : Band → ℕ → Bool
holds b amount = leb b.first amount && leb amount b.last

-- that of the one band that holds it
pub record RatedBy (bands : List Band) (amount rate : ℕ) : Type 0 where
  pub band : ℕ
  pub is_band : band < length bands
  pub holds_it : In (band_at bands band) amount
  pub no_other : (i : ℕ) → i < length bands → In (band_at bands i) amount → i ≡ band
  pub is_rate : rate ≡ (band_at bands band).cents

-- by computing, of any bands: that of the first band that holds it; 0 where none does
unfoldable pub rate_of : ℕ → List Band → ℕ
rate_of amount [] = 0
rate_of amount (b ∷ bs) = cond (holds b amount) b.cents (rate_of amount bs)
