-- `meet` takes the record of that number from a reader.
use mathlib.Core.Path.{ap}
use Rattle.std.proofs.lemmas.Iterator.Consumers.{nth_from_yields_List}
use Rattle.lattice.specs.Listing.{read_back}
use Rattle.section.proofs.ReaderLaws.{reader-gives, given-nth}
use Rattle.acceptance.proofs.sections.meet.Goals as goal

pub returns : goal.returns
returns c = given-nth (read_back c.args.listing.now) c.args.steps (nth_from_yields_List _ _ _ c.nth.ensures.ran (reader-gives c.args.listing.now 0 (ap (λ b. b.now) c.open.ensures.0) c.open.ensures.1))
