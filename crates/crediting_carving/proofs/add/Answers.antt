-- One place of the slice.
use Rattle.crediting_carving.proofs.AddedLaws.{set-added}
use Rattle.crediting_carving.proofs.add.Goals as goal

pub returns : goal.returns
returns c = set-added c.args.credits.now c.args.shot c.args.cells c.requires.shot_in_bounds
