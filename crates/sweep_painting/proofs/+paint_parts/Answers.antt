use native.Mathlib.Omega.{arith}
use Prim.Native.Nat.{◌<◌}
use mathlib.Core.Path.{◌≡◌}
use Rattle.sweep_painting.proofs.PaintingLaws.{painted-whole, painted-none, painted-more, painted-all}
use Rattle.sweep_painting.proofs.+paint_parts.Goals as goal

pub returns-then-fuel-eq0-clause-painted : goal.returns-then-fuel-eq0-clause-painted
returns-then-fuel-eq0-clause-painted t c = painted-whole _ _ _ _ _ _ _ c.fill_and_name.ensures.turned

pub returns-then-end-from-clause-painted : goal.returns-then-end-from-clause-painted
returns-then-end-from-clause-painted t c = painted-whole _ _ _ _ _ _ _ c.fill_and_name-then-end-from.ensures.turned

pub loop-side-init : goal.loop-side-init
loop-side-init t c = (painted-none _ _ _ _ _ _ _, c.requires.lent.tells)

pub loop-side-preserved : goal.loop-side-preserved
loop-side-preserved t c =
    let at = c.last_meeting-end.ensures in
    let more : c.args.from < c.last_meeting-end.result = omega (arith, at.onward, c.if-end-from.false) in
    let turn = c.paint_parts-left.ensures in (
      painted-more _ _ _ _ _ _ (omega (arith, more, at.within)) _ c.loop-side.side-index _ _ _ c.loop-side.invariant.0
          (rw c.part.ensures at turn.painted),
      turn.tells,
    )

pub returns-clause-painted : goal.returns-clause-painted
returns-clause-painted t c =
    let four : c.loop-side.side-index ≡ 4 = omega arith in
    let at = c.last_meeting-end.ensures in
    let more : c.args.from < c.last_meeting-end.result = omega (arith, at.onward, c.if-end-from.false) in
    painted-all _ _ _ _ _ _ (omega (arith, more, at.within)) _ (at.found more) c.common-core.ensures _ _ (rw four at c.loop-side.invariant.0)
