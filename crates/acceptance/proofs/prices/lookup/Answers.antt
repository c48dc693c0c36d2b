-- `lookup` gives the rate of an amount. Assumes nothing.
use Rattle.acceptance.proofs.PriceSentences.{looked-up}
use Rattle.acceptance.proofs.prices.lookup.Goals as goal

pub returns : goal.returns
returns c = looked-up c.args.bands.now c.args.amount c.lookup.ensures
