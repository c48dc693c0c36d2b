-- Counting again does as it promises.
use Rattle.acceptance.proofs.Condition1.{measure-answered}
use Rattle.acceptance.proofs.condition_1.recount.Goals as goal

pub returns : goal.returns
returns c = measure-answered c.recount.ensures
