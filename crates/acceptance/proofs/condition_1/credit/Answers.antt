-- Crediting does as it promises.
use Rattle.acceptance.proofs.Condition1.{credit-answered}
use Rattle.acceptance.proofs.condition_1.credit.Goals as goal

pub returns : goal.returns
returns c = credit-answered c.credit.ensures
