-- Bit by bit: a word, and itself a place on.
use Rattle.sweep_words.proofs.PointLaws.{across-word}
use Rattle.sweep_words.proofs.across.Goals as goal

pub returns : goal.returns
returns c i = across-word c.args.a c.args.b c.args.c c.args.d i
