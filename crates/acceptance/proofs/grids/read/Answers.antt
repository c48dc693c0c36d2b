-- A header without a grid says 16.
use Rattle.acceptance.proofs.GridLaws.{grid-read}
use Rattle.acceptance.proofs.grids.read.Goals as goal

pub returns : goal.returns
returns c = grid-read c.read.ensures
