-- The shots without credit add nothing.
use Rattle.acceptance.proofs.Requests.{left_out}
use Rattle.acceptance.proofs.credits.leave_out.Goals as goal

pub returns : goal.returns
returns c = left_out c.credit-credited.ensures c.list-one.ensures c.list-two.ensures
