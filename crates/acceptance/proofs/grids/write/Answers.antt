-- A grid of 16 is left out.
use Rattle.acceptance.proofs.GridLaws.{grid-written}
use Rattle.acceptance.proofs.grids.write.Goals as goal

pub returns : goal.returns
returns c = grid-written c.write.ensures
