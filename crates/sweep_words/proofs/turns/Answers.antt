-- Bit by bit: a word, and itself a place on.
use Rattle.sweep_words.proofs.PointLaws.{turns-word}
use Rattle.sweep_words.proofs.turns.Goals as goal

pub returns : goal.returns
returns c i = turns-word c.args.w i
