-- How the answer of the price call follows from what is measured and from the tables. Assumes nothing.
use mathlib.Core.Path.{◌≡◌, refl, sym, ap, subst, ◌∙◌}
use mathlib.Core.List.{List, []}
use Prim.Native.Nat.{ℕ, ◌*◌, ◌≤◌}
use lib.ListN.{length}
use Rattle.std.specs.Prelude.{Ok, Err}
use Rattle.job.specs.Job.{Job}
use Rattle.lattice_sums.specs.CornerSums.{totals_of}
use Rattle.lattice_sums.specs.declared.sums.Totals.{Totals}
use Rattle.refusals.specs.Tests.{first_of}
use Rattle.refusals.specs.Refusals.{Checked}
use Rattle.refusals.specs.declared.Refusal.{Refusal}
use Rattle.refusals.proofs.FirstOf.{first-none, first-passed, first-stopped}
use Rattle.measure_intake.specs.Intake.{solid, measure_tests, measure_checked, measure_answer, answer_of, MeasureCall, Measured}
use Rattle.measure_intake.proofs.Refused.{answer-refused, answer-accepted, measure-decides}
use Rattle.price_bands.specs.Bands.{Verdict, top, verdict_of, rate_of}
use Rattle.price_charging.specs.Charging.{Tables, table_tests, charges_of, charged_of, Chargeable, priced_by, priced_numbers, Priced}
use Rattle.price_charging.specs.declared.Charges.{Charges}
use Rattle.price_charging.specs.declared.Taken.{Taken}
use Rattle.price_charging.proofs.ChargeLaws.{priced-numbers, chargeable, charged-is}
use Rattle.price.specs.Price.{price_tests, price_checked, solid_charges, price_answer, price_numbers, PriceCall}
use Rattle.price.proofs.AmountLaws.{volume-most, area-most, edge_most}

module _ {job : Job} {work work' : List ℕ} {m : Measured} (call : MeasureCall job work m work') (t : Tables) where
  open job use {field as F}

  charges : Charges
  charges = solid_charges t F (solid job)

  price-is : {p : Priced} → p ≡ priced_by (price_checked job (length work) t) (solid_charges t F (solid job)) → PriceCall job work t p work'
  unfolding price_answer price_numbers
  price-is k = record {
    answer = k;
    numbers = ap priced_numbers k ∙ priced-numbers (price_checked job (length work) t) (solid_charges t F (solid job));
    index = call.index;
  }

  -- where measuring refuses, so does the call
  pub unmeasured-price : {r : Refusal} → m ≡ Err r → PriceCall job work t (Err r) work'
  unfolding measure_answer price_tests
  unmeasured-price {r} e =
      let refused = (answer-refused (measure_checked job (length work)) F (solid job) r).0 (sym call.answer ∙ e) in
      price-is (sym (ap (λ c. priced_by c (solid_charges t F (solid job))) (first-stopped (table_tests t) (measure_tests job (length work)) refused)))

  -- where it does not, its totals are those of the list, and the tables decide
  module _ {totals : Totals} (e : m ≡ Ok totals) where
    accepted : measure_checked job (length work) ≡ Ok tt
    unfolding measure_answer
    accepted = (answer-accepted (measure_checked job (length work)) F (solid job)).0 (totals, sym call.answer ∙ e)

    totals-are : totals_of F (solid job) ≡ totals
    unfolding measure_answer
    totals-are =
        let same : Ok (totals_of F (solid job)) ≡ Ok totals = sym (ap (λ c. answer_of c F (solid job)) accepted) ∙ sym call.answer ∙ e in
        cc

    pub amounts-most : (totals.volume ≤ top) × (totals.area ≤ top) × (totals.edge ≤ top)
    unfolding totals_of
    amounts-most =
        let most = ((measure-decides job (length work)).accepted.0 accepted).0.field_most in
        subst (λ (t : Totals). (t.volume ≤ top) × (t.area ≤ top) × (t.edge ≤ top)) totals-are
        (volume-most F (solid job) most, area-most F (solid job) most, edge_most F (solid job) most)

    tables-decided : {c : Checked} → c ≡ first_of (table_tests t) → price_checked job (length work) t ≡ c
    unfolding price_tests
    tables-decided k = first-passed (table_tests t) (measure_tests job (length work)) accepted ∙ sym k

    -- the amounts are charged by what the check and the lookup say of each table
    abbrev taken : Taken
    taken = record { checked = Ok tt; volume = totals.volume; area = totals.area; edge = totals.edge }

    module _ {v a l : Verdict} (v-is : v ≡ verdict_of t.volume) (a-is : a ≡ verdict_of t.area) (l-is : l ≡ verdict_of t.edges)
        {v-rate a-rate l-rate : ℕ} (v-rated : v-rate ≡ rate_of totals.volume t.volume) (a-rated : a-rate ≡ rate_of totals.area t.area) (l-rated : l-rate ≡ rate_of totals.edge t.edges) where
      pub taken-chargeable : Chargeable taken v a l v-rate a-rate l-rate
      taken-chargeable = chargeable taken t v-is a-is l-is v-rated a-rated l-rated amounts-most.0 amounts-most.1 amounts-most.2

      pub charged-price : {p : Priced} → p ≡ charged_of taken v a l v-rate a-rate l-rate → PriceCall job work t p work'
      unfolding totals_of
      charged-price k =
          price-is (
          k
          ∙ (charged-is taken t v-is a-is l-is v-rated a-rated l-rated [] first-none
          ∙ (ap (λ c. priced_by c (charges_of t totals.volume totals.area totals.edge)) (sym (tables-decided refl))
          ∙ ap (λ (n : Totals). priced_by (price_checked job (length work) t) (charges_of t n.volume n.area n.edge)) (sym totals-are)))
          )
