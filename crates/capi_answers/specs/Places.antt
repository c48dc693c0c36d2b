-- The numbers of each answer in the order of their places, which src/places.rt names.
use Rattle.std.specs.Prelude.{List, [], ◌∷◌, ℕ, Option, Some, None, is_some}
use Rattle.ground.specs.Numbers.{bit}
use Rattle.refusals.specs.Refusals.{Numbers}
use Rattle.measure_intake.specs.Intake.{MeasuredNumbers}
use Rattle.section.specs.declared.Places.{Places}
use Rattle.price_charging.specs.Charging.{PricedNumbers}

-- of the index: the refusal's number and detail, 0 and 0 where there is none
abbrev pub index_places : Numbers → List ℕ
index_places n = n.number ∷ n.detail ∷ []

-- of measuring: then the totals and the corner count, all 0 if refused
abbrev pub measure_places : MeasuredNumbers → List ℕ
measure_places n = n.number ∷ n.detail ∷ n.totals.volume ∷ n.totals.area ∷ n.totals.edge ∷ n.totals.inner ∷ n.totals.corners ∷ []

-- of pricing: then the charges, all 0 if refused
abbrev pub price_places : PricedNumbers → List ℕ
price_places n = n.number ∷ n.detail ∷ n.charges.volume ∷ n.charges.area ∷ n.charges.edge ∷ []

-- of the cover test: 1 and the shot that it names, or 0 and 0
abbrev pub shot_of : Option ℕ → ℕ
shot_of None = 0
shot_of (Some s) = s

abbrev pub cover_places : Option ℕ → List ℕ
cover_places o = bit (is_some o) ∷ shot_of o ∷ []

-- of the corners at one x: 0 and 0, since nothing is refused, and where their part of the listing begins and ends
abbrev pub part_places : Places → List ℕ
part_places p = 0 ∷ 0 ∷ p.first ∷ p.end ∷ []
