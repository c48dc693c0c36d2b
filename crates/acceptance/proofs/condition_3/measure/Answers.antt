-- Condition 3 of what measuring answers.
use Rattle.acceptance.proofs.Condition3.{totals-agree}
use Rattle.acceptance.proofs.condition_3.measure.Goals as goal

pub returns : goal.returns
returns c = totals-agree c.measure.ensures
