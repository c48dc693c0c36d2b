-- The five lines follow one another; a value has at most 20 digits.
use Prim.Native.Nat.{ℕ}
use native.Mathlib.Omega.{arith}
use lib.ListN.{length-append}
use Rattle.buffer.proofs.WroteLaws.{wrote_then}
use Rattle.text_parts.proofs.LineLaws.{digits-length}
use Rattle.text_report.specs.Lines.{quote_lines}
use Rattle.text_report.proofs.quote_lines.Goals as goal

pub put_line-area-requires : goal.put_line-area-requires
put_line-area-requires c = omega (arith, length-append {A = ℕ}, digits-length)

pub put_line-edge-requires : goal.put_line-edge-requires
put_line-edge-requires c = omega (arith, length-append {A = ℕ}, digits-length)

pub put_line-inner-requires : goal.put_line-inner-requires
put_line-inner-requires c = omega (arith, length-append {A = ℕ}, digits-length)

pub put_line-requires : goal.put_line-requires
put_line-requires c = omega (arith, length-append {A = ℕ}, digits-length)

pub returns : goal.returns
unfolding quote_lines
returns c = wrote_then c.put_line-volume.ensures (wrote_then c.put_line-area.ensures (wrote_then c.put_line-edge.ensures (wrote_then c.put_line-inner.ensures c.put_line.ensures)))
