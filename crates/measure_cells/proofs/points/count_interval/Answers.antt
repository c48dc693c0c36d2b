-- The run of the grid cell, narrowed to the line, covers the cells about the points as the list does.
use Rattle.buffer.proofs.WroteLaws.{front-part}
use Rattle.measure_cells.proofs.PointLaws.{cell-starts, run-asked, points-are}
use Rattle.measure_cells.proofs.points.count_interval.Goals as goal

pub run_of-run-requires : goal.run_of-run-requires
run_of-run-requires c = rw (c.from-side.ensures, c.from.ensures, c.from-2.ensures, c.from-3.ensures) (cell-starts _ c.args.list.holds.valid c.args.x c.args.y c.interval_at-gx.result c.interval_at-gy.result c.args.gz c.interval_at-gx.ensures c.interval_at-gy.ensures c.requires.points_in_interval.below c.args.list.work.now c.args.list.holds c.cells_of.ensures)

pub narrow_to_line-found-requires : goal.narrow_to_line-found-requires
narrow_to_line-found-requires c =
    let p = run-asked _ c.args.list.holds.valid c.args.x c.args.y c.interval_at-gx.result c.interval_at-gy.result c.args.gz c.interval_at-gx.ensures c.interval_at-gy.ensures c.requires.points_in_interval.below c.args.list.work.now c.args.list.holds
    c.cells_of.ensures (rw (c.from-side.ensures, c.from.ensures, c.from-2.ensures, c.from-3.ensures) at c.run_of-run.ensures) c.requires.few_len in
    record { all_below = p.0; run_in_bounds = p.1 }

pub returns : goal.returns
returns c = points-are _ c.args.list.holds.valid c.args.x c.args.y c.interval_at-gx.result c.interval_at-gy.result c.args.gz c.interval_at-gx.ensures c.interval_at-gy.ensures c.requires.points_in_interval.below c.args.list.work.now c.args.list.holds
    c.cells_of.ensures (rw (c.from-side.ensures, c.from.ensures, c.from-2.ensures, c.from-3.ensures) at c.run_of-run.ensures) c.args.from c.args.points c.requires.points_in_interval (front-part c.narrow_to_line-found.ensures) c.args.t
    c.count_points.ensures
