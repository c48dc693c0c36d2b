-- `places_at` is what `places_of` finds, by what bytes are.
use Rattle.acceptance.proofs.SectionLaws.{places-promised}
use Rattle.acceptance.proofs.sections.places_at.Goals as goal

pub returns : goal.returns
returns c = places-promised (λ i. (c.type_inv.listing i).fits) c.places_of.ensures
