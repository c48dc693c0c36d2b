-- `price` answers as the price call does. Assumes nothing.
use Rattle.acceptance.proofs.PriceSentences.{list-priced}
use Rattle.acceptance.proofs.prices.price.Goals as goal

pub returns : goal.returns
returns c = list-priced c.price.ensures
