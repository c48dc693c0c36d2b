-- The label, and the digits after it.
use native.Mathlib.Omega.{arith}
use Rattle.buffer.proofs.WroteLaws.{wrote_then}
use Rattle.shotfile_lines.proofs.LineLaws.{labelled-length}
use Rattle.shotfile_lines.proofs.put_labelled.Goals as goal

pub returns : goal.returns
returns c = let wrote = wrote_then c.put_word-named.ensures c.put_digits.ensures in
    record { wrote = wrote; few = omega (arith, wrote.next, labelled-length c.args.label.now c.args.a) }
