-- The digits, and the byte after them. Assumes nothing.
use native.Mathlib.Omega.{arith}
use Rattle.buffer.proofs.WroteLaws.{wrote_then}
use Rattle.text_parts.proofs.LineLaws.{digits-length}
use Rattle.section_text.specs.CornerLines.{digits_then}
use Rattle.section_text.proofs.put_number.Goals as goal

pub put_byte-requires : goal.put_byte-requires
put_byte-requires c = omega (arith, digits-length)

pub returns : goal.returns
unfolding digits_then
returns c = wrote_then c.put_digits-ended.ensures c.put_byte.ensures
