-- Four numbers follow one another. Assumes nothing.
use native.Mathlib.Omega.{arith}
use Rattle.buffer.proofs.WroteLaws.{wrote_as, wrote_then}
use Rattle.section_text.specs.CornerLines.{corner_line}
use Rattle.section_text.proofs.TextLaws.{number-length}
use Rattle.section_text.proofs.put_corner.Goals as goal

pub put_number-to_z-requires : goal.put_number-to_z-requires
put_number-to_z-requires c = omega (arith, number-length)

pub put_number-to_pattern-requires : goal.put_number-to_pattern-requires
put_number-to_pattern-requires c = omega (arith, number-length)

pub put_number-requires : goal.put_number-requires
put_number-requires c = omega (arith, number-length)

pub returns : goal.returns
unfolding corner_line
returns c = wrote_as {xs = corner_line c.from.result c.from-2.result c.from-3.result c.from-4.result} (cc) (wrote_then c.put_number-to_y.ensures (wrote_then c.put_number-to_z.ensures (wrote_then c.put_number-to_pattern.ensures c.put_number.ensures)))
