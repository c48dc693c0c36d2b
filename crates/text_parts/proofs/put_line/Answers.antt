-- The word, a space, the digits and the end of the line follow one another.
use native.Mathlib.Omega.{arith}
use Rattle.buffer.proofs.WroteLaws.{wrote_then}
use Rattle.text_parts.proofs.LineLaws.{digits-length}
use Rattle.text_parts.proofs.put_line.Goals as goal

pub put_byte-requires : goal.put_byte-requires
put_byte-requires c = omega (arith, digits-length)

pub returns : goal.returns
returns c = wrote_then c.put_word-named.ensures
    (wrote_then c.put_byte-split.ensures (wrote_then c.put_digits-valued.ensures c.put_byte.ensures))
