-- `check` says what the verdict of a table says. Assumes nothing.
use Rattle.acceptance.proofs.PriceSentences.{table-checked}
use Rattle.acceptance.proofs.prices.check.Goals as goal

pub returns : goal.returns
returns c = table-checked c.args.bands.now c.check.ensures
