use mathlib.Core.Path.{◌≡◌}
use Prim.Native.Nat.{◌+◌}
use native.Mathlib.Omega.{arith}
use Rattle.sweep_points.proofs.LineLaws.{lines_none, lines-past, lines_more}
use Rattle.sweep_points.proofs.Turns.{line-room, plane-found}
use Rattle.sweep_points.proofs.lines.Goals as goal

pub loop-y-init : goal.loop-y-init
loop-y-init c = let given = c.requires in
    let next = c.next_named-y.ensures in
    (next.2, lines-past _ _ given.layers.1 0 _ _ (omega arith) (omega arith) next.0 (lines_none _ _))

pub line-s-requires-clause-field_bound : goal.line-s-requires-clause-field_bound
line-s-requires-clause-field_bound c = let given = c.requires in (
  given.field_bound.0,
  omega (arith, given.field_bound),
  omega arith,
  given.field_bound.2,
  line-room _ _ given.field_bound.0 given.field_bound.1 given.layers.0 _ c.loop-y.y (omega arith) given.field_bound.3 c.loop-y.invariant.1,
)

pub loop-y-preserved : goal.loop-y-preserved
loop-y-preserved c = let given = c.requires in
    let next = c.next_named-y-in-loop-y.ensures in (
      next.2,
      lines-past _ _ given.layers.1 _ _ _ next.1 (omega (arith, next, given.field_bound)) next.0
          (lines_more _ _ _ c.loop-y.invariant.1 c.line-s.ensures),
    )

pub returns : goal.returns
returns c = let given = c.requires in
    let all : c.loop-y.y ≡ c.args.field + 1 = omega arith in
    plane-found _ _ given.field_bound.0 given.field_bound.1 given.layers.0 _ given.field_bound.3 (rw all at c.loop-y.invariant.1)
