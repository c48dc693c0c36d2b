use native.Mathlib.Omega.{arith}
use mathlib.Core.Path.{◌≡◌}
use Rattle.sweep_carving.proofs.CarvingLaws.{carved-whole, carved-leaf, parts_none, parts_more, parts_all}
use Rattle.sweep_carving.proofs.+carve.Goals as goal

pub returns-then-fuel-eq0-clause-carved : goal.returns-then-fuel-eq0-clause-carved
returns-then-fuel-eq0-clause-carved t c = carved-whole _ _ _ _ _ _ _ _ c.again.ensures.turned

pub returns-then-place-to-clause-carved : goal.returns-then-place-to-clause-carved
returns-then-place-to-clause-carved t c =
    carved-leaf _ _ _ _ _ _ _ c.first_meeting-place.ensures c.if-place-to.true _ _ c.fill_and_name.ensures.turned

pub loop-side-init : goal.loop-side-init
loop-side-init t c =
    let first = c.first_meeting-place.ensures in
    (parts_none _ _ _ _ _ _ _ first (omega (arith, first.within, c.if-place-to.false)) _ c.common-core.ensures _, c.requires.lent.tells)

pub loop-side-preserved : goal.loop-side-preserved
loop-side-preserved t c =
    let at = c.loop-side in
    let first = c.first_meeting-place.ensures in
    let carved = c.carve-left.ensures in (
      parts_more _ _ _ _ _ _ _ first (omega (arith, first.within, c.if-place-to.false)) _ c.common-core.ensures at.side-index _ _ _
          at.invariant.0 (rw c.part.ensures at carved.carved),
      carved.tells,
    )

pub returns-clause-carved : goal.returns-clause-carved
returns-clause-carved t c =
    let at = c.loop-side in
    let four : at.side-index ≡ 4 = omega arith in
    let first = c.first_meeting-place.ensures in
    parts_all _ _ _ _ _ _ _ first (omega (arith, first.within, c.if-place-to.false)) _ c.common-core.ensures _ _
    (rw four at at.invariant.0)
