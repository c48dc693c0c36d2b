-- A run of ones, shifted up.
use Rattle.sweep_words.proofs.MaskLaws.{bit-upper}
use Rattle.sweep_words.proofs.upper.Goals as goal

pub returns : goal.returns
returns c i h = bit-upper c.args.a i h
