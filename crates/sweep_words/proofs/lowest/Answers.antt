-- The zeros under the lowest set bit.
use Rattle.sweep_words.proofs.LowestLaws.{trailing-lowest}
use Rattle.sweep_words.proofs.lowest.Goals as goal

pub returns : goal.returns
returns c = trailing-lowest c.args.m c.requires c.ranges.m.fits
