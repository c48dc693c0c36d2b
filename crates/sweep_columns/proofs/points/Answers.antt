use native.Mathlib.Omega.{arith}
use Rattle.sweep_columns.specs.Columns.{column_corners}
use Rattle.sweep_columns.proofs.Visits.{visit-none, visit-all}
use Rattle.sweep_columns.proofs.CornerLaws.{names-corners, point-top, point-room, point-next}
use Rattle.sweep_columns.proofs.points.Goals as goal

pub loop-m-init : goal.loop-m-init
loop-m-init c = visit-none 63 _ _ _

pub meet-s-requires : goal.meet-s-requires
meet-s-requires c = let given = c.requires in
    let mask = c.corner_places-m.ensures in (
      given.0,
      given.1,
      point-top _ _ _ _ _ _ _ _ mask c.loop-m.invariant c.lowest-b.ensures given.5,
      point-room _ _ _ _ _ _ _ _ mask c.loop-m.invariant c.lowest-b.ensures given.5 given.0 given.1 given.2 given.4,
      given.3,
    )

pub loop-m-preserved : goal.loop-m-preserved
loop-m-preserved c = point-next _ _ _ _ _ _ _ _ c.corner_places-m.ensures c.loop-m.invariant c.lowest-b.ensures
    c.without_lowest-m.ensures c.pattern-p.ensures c.meet-s.ensures

pub returns : goal.returns
unfolding column_corners
returns c = visit-all (names-corners _ _ _ _ _ _ _ _ c.corner_places-m.ensures) c.loop-m.invariant (omega arith)
