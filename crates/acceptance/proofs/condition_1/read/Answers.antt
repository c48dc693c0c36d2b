-- Reading does as it promises.
use Rattle.acceptance.proofs.Condition1.{read-answered}
use Rattle.acceptance.proofs.condition_1.read.Goals as goal

pub returns : goal.returns
returns c = read-answered c.read.ensures
