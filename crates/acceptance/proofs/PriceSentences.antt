-- Request (viii), from what the check, the lookup and the price call promise. Assumes nothing.
use mathlib.Core.Path.{◌≡◌, sym, subst, ◌∙◌}
use mathlib.Core.List.{List}
use Prim.Native.Nat.{ℕ}
use Rattle.job.specs.Job.{Job}
use Rattle.price_bands.specs.Bands.{Verdict, RatedBy, verdict_of, rate_of}
use Rattle.price_bands.specs.declared.Band.{Band}
use Rattle.price_bands.proofs.BandTheorems.{sound-iff, fault-iff, valid-rated, rate-first, rate-none}
use Rattle.price_charging.specs.Charging.{Tables, Priced}
use Rattle.price.specs.Price.{PriceCall}
use Rattle.price.proofs.PriceTheorems.{price-accepts, price-refuses, price-work-kept, price-work-done, volume-charged, area-charged, edge-charged}
use Rattle.acceptance.specs.Condition1.{PriceAnswered}
use Rattle.acceptance.specs.Prices.{TableChecked, LookedUp, ListPriced}

pub table-checked : (bands : List Band) {r : Verdict} → r ≡ verdict_of bands → TableChecked bands r
table-checked bands e = record {
  sound = let s = sound-iff bands in (λ k. s.0 (sym e ∙ k), λ v. e ∙ s.1 v);
  faulty = λ band. let f = fault-iff bands band in (λ k. f.0 (sym e ∙ k), λ v. e ∙ f.1 v);
}

pub looked-up : (bands : List Band) (amount : ℕ) {rate : ℕ} → rate ≡ rate_of amount bands → LookedUp bands amount rate
looked-up bands amount e = record {
  valid = λ v h. subst (RatedBy bands amount) (sym e) (valid-rated v amount h);
  first = λ i l a n. e ∙ rate-first bands amount i l a n;
  none = λ n. e ∙ rate-none bands amount n;
}

module _ {job : Job} {work work' : List ℕ} {t : Tables} {r : Priced} (call : PriceCall job work t r work') where
  -- condition 1
  price-answered : PriceAnswered job work t r work'
  price-answered = record {
    accepts = price-accepts call;
    refuses = price-refuses call;
    numbers = call.numbers;
    index_stored = price-work-done call;
    index_kept = price-work-kept call;
  }

  pub list-priced : ListPriced job work t r work'
  list-priced = record {
    answered = price-answered;
    charges = λ c e. record { volume_charge = volume-charged call e; area_charge = area-charged call e; edge_charge = edge-charged call e };
  }
