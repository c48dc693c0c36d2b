-- Writing does as it promises.
use Rattle.acceptance.proofs.Condition1.{write-answered}
use Rattle.acceptance.proofs.condition_1.write.Goals as goal

pub returns : goal.returns
returns c = write-answered c.write.ensures
