use mathlib.Core.Path.{ap}
use native.Mathlib.Omega.{arith}
use lib.ListN.{length}
use Rattle.text_wording.proofs.SentenceLaws.{sentence-length}
use Rattle.text_wording.proofs.put_sentence.Goals as goal

pub put_word-requires : goal.put_word-requires
put_word-requires c = omega (arith, c.requires, ap length c.sentence.ensures, sentence-length c.args.refusal)
