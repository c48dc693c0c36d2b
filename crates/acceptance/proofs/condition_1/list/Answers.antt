-- Listing does as it promises.
use Rattle.acceptance.proofs.Condition1.{list-answered}
use Rattle.acceptance.proofs.condition_1.list.Goals as goal

pub returns : goal.returns
returns c = list-answered c.list.ensures
