-- The number, a space, the credit and the end of the line follow one another.
use native.Mathlib.Omega.{arith}
use Rattle.buffer.proofs.WroteLaws.{wrote_as, wrote_then}
use Rattle.text_parts.proofs.LineLaws.{digits-length}
use Rattle.crediting_text.specs.Credited.{credit_line}
use Rattle.crediting_text.proofs.put_credit.Goals as goal

pub put_byte-split-requires : goal.put_byte-split-requires
put_byte-split-requires c = omega (arith, digits-length)

pub put_digits-credited-requires : goal.put_digits-credited-requires
put_digits-credited-requires c = omega (arith, digits-length)

pub put_byte-requires : goal.put_byte-requires
put_byte-requires c = omega (arith, digits-length)

pub returns : goal.returns
returns c = wrote_as {xs = credit_line c.args.shot c.from.result} (cc) (wrote_then c.put_digits-numbered.ensures
    (wrote_then c.put_byte-split.ensures (wrote_then c.put_digits-credited.ensures c.put_byte.ensures)))
