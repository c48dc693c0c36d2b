-- `part_at` is what `part` hands back, by what bytes are.
use Rattle.acceptance.proofs.SectionLaws.{part-promised}
use Rattle.acceptance.proofs.sections.part_at.Goals as goal

pub returns : goal.returns
returns c = part-promised (λ i. (c.type_inv.listing i).fits) c.part.ensures
