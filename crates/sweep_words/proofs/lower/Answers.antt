-- A run of ones, shifted down.
use Rattle.sweep_words.proofs.MaskLaws.{bit-lower}
use Rattle.sweep_words.proofs.lower.Goals as goal

pub returns : goal.returns
returns c i = bit-lower c.args.b i c.requires
