-- When the price call gives charges, when it refuses, each exactly, what the charges are, and what is left in the work slice: docs/SCOPE.md,
-- 'Price bands' and 'When a job is refused'. The statements speak of the call by what it promises, a `PriceCall`. Assumes nothing.
use mathlib.Core.Path.{◌≡◌, sym, ap, subst, ◌∙◌}
use mathlib.Core.List.{List}
use mathlib.Core.Logic.{◌↔◌}
use Prim.Native.Nat.{ℕ}
use lib.ListN.{length}
use Rattle.buffer.specs.Wrote.{in_front}
use Rattle.job.specs.Job.{Job}
use Rattle.lattice.specs.Cells.{volume, area, edge_length}
use Rattle.refusals.specs.Deciding.{Decides}
use Rattle.refusals.specs.declared.Refusal.{Refusal}
use Rattle.refusals.proofs.Deciding.{decides-then}
use Rattle.grid.specs.Grid.{index_of}
use Rattle.measure_intake.specs.Intake.{solid, MeasureAccepts, MeasureRefuses}
use Rattle.measure_intake.proofs.Refused.{measure-decides, work-stored, work-kept}
use Rattle.price_charging.specs.Charging.{Tables, ChargedBy, priced_by, Priced}
use Rattle.price_charging.specs.declared.Charges.{Charges}
use Rattle.price_charging.proofs.TableLaws.{tables-decide}
use Rattle.price_charging.proofs.ChargeLaws.{valid-charged, priced-accepted, priced-refused}
use Rattle.price.specs.Price.{price_tests, price_checked, solid_charges, price_answer, PriceCall, PriceAccepts, PriceRefuses}
use Rattle.price.proofs.AmountLaws.{volume-most, area-most, edge_most}
use Rattle.std.specs.Prelude.{Ok, Err}

-- ---- the checks
pub price-decides : (job : Job) (entries : ℕ) (t : Tables) → Decides (price_tests job entries t) (PriceAccepts job entries t) (PriceRefuses job entries t)
unfolding price_tests
price-decides job entries t = decides-then (measure-decides job entries) (tables-decide t)

-- ---- a price call
module _ {job : Job} {work work' : List ℕ} {t : Tables} {p : Priced} (call : PriceCall job work t p work') where
  open job use {field as F}

  -- charges are given if and only if the list is valid, the work slice is long enough and the three tables are valid
  pub price-accepts : ((c : Charges) × (p ≡ Ok c)) ↔ PriceAccepts job (length work) t
  unfolding price_answer
  price-accepts =
      let answer = priced-accepted (price_checked job (length work) t) (solid_charges t F (solid job)) in
      let h = (price-decides job (length work) t).accepted in
      (λ q. h.0 (answer.0 (q.0, sym call.answer ∙ q.1)), λ v. let q = answer.1 (h.1 v) in (q.0, call.answer ∙ q.1))

  -- a refusal is given if and only if its condition is the first that holds
  pub price-refuses : (r : Refusal) → (p ≡ Err r) ↔ PriceRefuses job (length work) t r
  unfolding price_answer
  price-refuses r =
      let answer = priced-refused (price_checked job (length work) t) (solid_charges t F (solid job)) r in
      let h = (price-decides job (length work) t).refused r in
      (λ e. h.0 (answer.0 (sym call.answer ∙ e)), λ v. call.answer ∙ answer.1 (h.1 v))

  -- a refusal of measuring leaves the work slice as it was; else, at 18 too, it holds the finished index
  pub price-work-kept : (r : Refusal) → MeasureRefuses job (length work) r → work' ≡ work
  price-work-kept r h = call.index ∙ work-kept job work r h

  pub price-work-done : MeasureAccepts job (length work) → work' ≡ in_front (index_of job) work
  price-work-done h = call.index ∙ work-stored job work h

  -- the charges of a priced list
  module _ {c : Charges} (charged : p ≡ Ok c) where
    accepted : PriceAccepts job (length work) t
    accepted = price-accepts.0 (c, charged)

    charges-are : c ≡ solid_charges t F (solid job)
    unfolding price_answer
    charges-are =
        let k = (price-decides job (length work) t).accepted.1 accepted in
        let same : Ok c ≡ Ok (solid_charges t F (solid job)) = sym charged ∙ call.answer ∙ ap (λ c. priced_by c (solid_charges t F (solid job))) k in
        cc

    pub volume-charged : ChargedBy t.volume (volume F (solid job)) c.volume
    volume-charged =
        subst (ChargedBy t.volume (volume F (solid job))) (sym (ap (λ (c : Charges). c.volume) charges-are))
        (valid-charged accepted.1.volume_valid (volume F (solid job)) (volume-most F (solid job) accepted.0.0.field_most))

    pub area-charged : ChargedBy t.area (area F (solid job)) c.area
    area-charged =
        subst (ChargedBy t.area (area F (solid job))) (sym (ap (λ (c : Charges). c.area) charges-are))
        (valid-charged accepted.1.area_valid (area F (solid job)) (area-most F (solid job) accepted.0.0.field_most))

    pub edge-charged : ChargedBy t.edges (edge_length F (solid job)) c.edge
    edge-charged =
        subst (ChargedBy t.edges (edge_length F (solid job))) (sym (ap (λ (c : Charges). c.edge) charges-are))
        (valid-charged accepted.1.edges_valid (edge_length F (solid job)) (edge_most F (solid job) accepted.0.0.field_most))
