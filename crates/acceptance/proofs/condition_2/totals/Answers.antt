-- The totals are counts.
use Rattle.acceptance.proofs.Condition2.{totals-counted}
use Rattle.acceptance.proofs.condition_2.totals.Goals as goal

pub returns : goal.returns
returns c = totals-counted c.measure.ensures
