-- The word and the two numbers follow one another, split by spaces; neither number has more than 20 digits.
use native.Mathlib.Omega.{arith}
use Rattle.buffer.proofs.WroteLaws.{wrote_as, wrote_then}
use Rattle.text_parts.proofs.LineLaws.{digits-length}
use Rattle.text_refusal.specs.RefusalLine.{refusal_line}
use Rattle.text_refusal.proofs.refusal_line.Goals as goal

pub put_byte-second-requires : goal.put_byte-second-requires
put_byte-second-requires c = omega (arith, digits-length)

pub put_digits-detailed-requires : goal.put_digits-detailed-requires
put_digits-detailed-requires c = omega (arith, digits-length)

pub put_byte-requires : goal.put_byte-requires
put_byte-requires c = omega (arith, digits-length)

pub returns : goal.returns
unfolding refusal_line
returns c = wrote_as {xs = refusal_line c.from.result c.args.detail} (cc) (wrote_then c.put_word-refused.ensures
    (wrote_then c.put_byte-first.ensures
    (wrote_then c.put_digits-numbered.ensures
    (wrote_then c.put_byte-second.ensures (wrote_then c.put_digits-detailed.ensures c.put_byte.ensures)))))
