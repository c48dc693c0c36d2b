-- Condition 3 of what listing answers and leaves.
use Rattle.acceptance.proofs.Condition3.{corners_listed}
use Rattle.acceptance.proofs.condition_3.list.Goals as goal

pub returns : goal.returns
returns c = corners_listed c.list.ensures
