-- `meet_next` steps a reader and reads from where it stands.
use mathlib.Core.Path.{◌∙◌}
use Rattle.section.proofs.StepLaws.{step_from-after}
use Rattle.acceptance.proofs.sections.meet_next.Goals as goal

pub returns : goal.returns
returns c = c.step_after.ensures ∙ step_from-after c.args.listing.now c.args.at
