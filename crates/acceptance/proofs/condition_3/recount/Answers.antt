-- Condition 3 of what counting again answers.
use Rattle.acceptance.proofs.Condition3.{totals-agree}
use Rattle.acceptance.proofs.condition_3.recount.Goals as goal

pub returns : goal.returns
returns c = totals-agree c.recount.ensures
