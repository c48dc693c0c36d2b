-- The credits are right.
use Rattle.acceptance.proofs.Requests.{credited}
use Rattle.acceptance.proofs.credits.credit.Goals as goal

pub returns : goal.returns
returns c = credited c.credit.ensures
