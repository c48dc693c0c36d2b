use mathlib.Core.Path.{◌≡◌}
use native.Mathlib.Omega.{arith}
use lib.Bits.{bit_or, or_zero_r}
use lib.ListN.{get_or}
use borrow.Author.Tests.{eq-eqb, ne_eqb}
use Rattle.sweep_image.proofs.ChangeLaws.{changed-more}
use Rattle.sweep_names.specs.Names.{named_if}
use Rattle.sweep_names.proofs.name_rows.Goals.{then-l-at, else-l-at}
use Rattle.sweep_names.proofs.name_rows.Goals as goal

pub loop-y-preserved : goal.loop-y-preserved
loop-y-preserved c = let at = c.loop-y in
    let given = c.args in
    let had = get_or at.names at.y 0 in
    let name = named_if given.l.now given.u.now given.at given.bit at.y in
    let named : bit_or had c.if-l-at.names ≡ name had
    = elim c.if-l-at.branch [
      | then-l-at w ↦ rw (w.names-is, eq-eqb _ _ w.if-l-at.true) (or_zero_r had)
      | else-l-at w ↦ rw (w.names-is, ne_eqb _ _ w.if-l-at.false)
    ] in
    changed-more (bit_or had c.if-l-at.names) (omega arith) (omega arith) named at.invariant
