-- `meet_at` steps through the part.
use mathlib.Core.Path.{◌∙◌, ap}
use lib.ListN.{drop}
use Rattle.lattice.specs.Listing.{read_back}
use Rattle.section.specs.Section.{first_step}
use Rattle.section.proofs.RunLaws.{part-reads}
use Rattle.acceptance.proofs.sections.meet_at.Goals as goal

pub returns : goal.returns
returns c = c.meet.ensures ∙ ap (λ vs. first_step (drop c.args.steps vs)) (ap read_back c.part-part.ensures ∙ part-reads c.args.listing.now c.args.x)
