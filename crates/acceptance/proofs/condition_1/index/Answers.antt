-- Making the index does as it promises.
use Rattle.acceptance.proofs.Condition1.{index-answered}
use Rattle.acceptance.proofs.condition_1.index.Goals as goal

pub returns : goal.returns
returns c = index-answered c.indexed.ensures
