-- One list, two grids.
use Rattle.acceptance.proofs.GridLaws.{listed-alike}
use Rattle.acceptance.proofs.grids.list_in_two_grids.Goals as goal

pub returns : goal.returns
returns c = listed-alike c.list-one.ensures c.list-two.ensures
