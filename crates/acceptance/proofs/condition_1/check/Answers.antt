-- Checking does as it promises.
use Rattle.acceptance.proofs.Condition1.{check-answered}
use Rattle.acceptance.proofs.condition_1.check.Goals as goal

pub returns : goal.returns
returns c = check-answered c.check.ensures
