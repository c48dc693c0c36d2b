-- What is charged by three tables: each charge is by the one band that holds its amount, none wraps, and the answer is that of the tests and
-- the tables. Amounts are at most the top of a table. Assumes nothing.
use mathlib.Core.Path.{◌≡◌, refl, sym, ap, ◌∙◌}
use mathlib.Core.List.{List, ◌++◌}
use mathlib.Core.Logic.{◌↔◌}
use Prim.Native.Nat.{ℕ, ◌*◌, ◌≤◌, ◌<◌, ◌^◌}
use native.Mathlib.Omega.{arith}
use native.Mathlib.Nat.{mul-le-mul}
use Rattle.refusals.specs.Tests.{Test, first_of}
use Rattle.refusals.specs.declared.Refusal.{Refusal}
use Rattle.price_bands.specs.Bands.{top, highest_rate, Verdict, ValidTable, verdict_of, rate_of}
use Rattle.price_bands.specs.declared.Band.{Band}
use Rattle.price_bands.proofs.BandTheorems.{sound-iff, valid-rated, rate-most}
use Rattle.price_charging.specs.declared.Charges.{Charges}
use Rattle.price_charging.specs.declared.Taken.{Taken}
use Rattle.price_charging.specs.Charging.{Tables, table_tests, ChargedBy, charges_of, priced_by, priced_numbers, priced_numbers_by, checked_after_three, Chargeable, charged_of}
use Rattle.price_charging.proofs.TableLaws.{tables_after}
use Rattle.refusals.specs.Refusals.{Checked}
use Rattle.std.specs.Prelude.{Ok, Err}

-- ---- one charge
pub valid-charged : {bands : List Band} → ValidTable bands → (amount : ℕ) → amount ≤ top → ChargedBy bands amount (amount * rate_of amount bands)
valid-charged {bands} v amount h = record { rate = rate_of amount bands; rated = valid-rated v amount h; is_charge = refl }

-- it does not wrap
pub charge-fits : {bands : List Band} → ValidTable bands → (amount : ℕ) → amount ≤ top → amount * rate_of amount bands < 2 ^ 64
charge-fits {bands} v amount h =
    let most : amount * rate_of amount bands ≤ top * highest_rate = mul-le-mul h (rate-most v amount h) in
    omega (arith, most)

-- ---- an answer is charges if and only if the checks pass, and a refusal if and only if they give it
pub priced-accepted : (c : Checked) (k : Charges) → ((d : Charges) × (priced_by c k ≡ Ok d)) ↔ (c ≡ Ok tt)
priced-accepted c k = (λ q. to c q.0 q.1, λ e. (k, ap (λ (c : Checked). priced_by c k) e))
  where
    to : (c : Checked) (d : Charges) → priced_by c k ≡ Ok d → c ≡ Ok tt
    to (Ok tt) d e = refl
    to (Err q) d e = let z : ◌≡◌ {A = ℕ} 0 1 = cc in absurd (omega arith)

pub priced-refused : (c : Checked) (k : Charges) (r : Refusal) → (priced_by c k ≡ Err r) ↔ (c ≡ Err r)
priced-refused c k r = (to c, λ e. ap (λ (c : Checked). priced_by c k) e)
  where
    to : (c : Checked) → priced_by c k ≡ Err r → c ≡ Err r
    to (Ok tt) e = let z : ◌≡◌ {A = ℕ} 0 1 = cc in absurd (omega arith)
    to (Err q) e = let same : q ≡ r = cc in ap Err same

-- and has the numbers that they say
pub priced-numbers : (c : Checked) (k : Charges) → priced_numbers (priced_by c k) ≡ priced_numbers_by c k
unfolding priced_numbers
priced-numbers (Ok tt) k = refl
priced-numbers (Err q) k = refl

-- ---- three charges, of tables that the check has looked at and at the rates of its lookup
module _ (r : Taken) (t : Tables) {v a e : Verdict} (v-is : v ≡ verdict_of t.volume) (a-is : a ≡ verdict_of t.area) (e-is : e ≡ verdict_of t.edges)
    {v-rate a-rate e-rate : ℕ} (v-rated : v-rate ≡ rate_of r.volume t.volume) (a-rated : a-rate ≡ rate_of r.area t.area) (e-rated : e-rate ≡ rate_of r.edge t.edges) where
  -- amounts up to the top can be charged
  fits : (bands : List Band) (amount rate : ℕ) {w : Verdict} → w ≡ verdict_of bands → rate ≡ rate_of amount bands → amount ≤ top → w ≡ Ok tt → amount * rate < 2 ^ 64
  fits bands amount rate is rated h sound =
      omega (arith, charge-fits ((sound-iff bands).0 (sym is ∙ sound)) amount h, ap (λ (n : ℕ). amount * n) rated)

  pub chargeable : r.volume ≤ top → r.area ≤ top → r.edge ≤ top → Chargeable r v a e v-rate a-rate e-rate
  chargeable hv ha he = record {
    volume_fits = fits t.volume r.volume v-rate v-is v-rated hv;
    area_fits = fits t.area r.area a-rate a-is a-rated ha;
    edge_fits = fits t.edges r.edge e-rate e-is e-rated he;
  }

  -- behind tests that say what is known of the list
  pub charged-is : (ts : List Test) → r.checked ≡ first_of ts
      → charged_of r v a e v-rate a-rate e-rate ≡ priced_by (first_of (ts ++ table_tests t)) (charges_of t r.volume r.area r.edge)
  charged-is ts before =
      rw (v-is, a-is, e-is, v-rated, a-rated, e-rated)
      (ap (λ c. priced_by c (charges_of t r.volume r.area r.edge))
      (ap (λ c. checked_after_three c (verdict_of t.volume) (verdict_of t.area) (verdict_of t.edges)) before ∙ tables_after ts t))
