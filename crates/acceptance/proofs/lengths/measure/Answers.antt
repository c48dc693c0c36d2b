-- Both lengths are counts and sums.
use Rattle.acceptance.proofs.Requests.{both-lengths}
use Rattle.acceptance.proofs.lengths.measure.Goals as goal

pub returns : goal.returns
returns c = both-lengths c.measure.ensures
