-- One less than a word has its bits above the lowest, and not that.
use Rattle.sweep_words.proofs.LowestLaws.{and-one-less}
use Rattle.sweep_words.proofs.without_lowest.Goals as goal

pub returns : goal.returns
returns c = and-one-less c.args.m c.requires
