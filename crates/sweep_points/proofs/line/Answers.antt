use native.Mathlib.Omega.{arith}
use Rattle.sweep_columns.proofs.Visits.{visit-none, visit-all}
use Rattle.sweep_points.specs.Points.{line_at}
use Rattle.sweep_points.proofs.LineLaws.{names-columns}
use Rattle.sweep_points.proofs.Turns.{column-few, column-held, column-inside, column-room, column-next}
use Rattle.sweep_points.proofs.line.Goals as goal

pub loop-m-init : goal.loop-m-init
loop-m-init c = rw (c.named-m.ensures, c.from.ensures) (visit-none _ _ _ _)

pub column-s-requires : goal.column-s-requires
column-s-requires c = let given = c.requires in
    let turn = c.loop-m.invariant in
    let low = c.lowest-k.ensures in
    record {
      x_bound = (
        given.field_bound.1,
        omega (arith, given.field_bound),
        column-few _ _ _ given.field_bound.0 given.field_bound.2 given.layers.0 given.layers.1 turn low,
        given.field_bound.3,
        column-room _ _ _ given.field_bound.0 given.field_bound.2 given.layers.0 given.layers.1 turn low given.field_bound.1 given.field_bound.4,
      );
      rows_in_bounds = column-held _ _ _ given.field_bound.0 given.field_bound.2 given.layers.0 given.layers.1 turn low;
      inside = column-inside _ _ _ given.field_bound.0 given.field_bound.2 given.layers.0 given.layers.1 turn low;
    }

pub loop-m-preserved : goal.loop-m-preserved
loop-m-preserved c = let given = c.requires in
    column-next _ _ _ given.field_bound.0 given.field_bound.2 given.layers.0 given.layers.1 c.loop-m.invariant c.lowest-k.ensures
    c.without_lowest-m.ensures c.column-s.ensures

pub returns : goal.returns
unfolding line_at
returns c = let given = c.requires in
    visit-all (names-columns _ _ _ given.layers.1 (omega (arith, given.field_bound))) c.loop-m.invariant (omega arith)
