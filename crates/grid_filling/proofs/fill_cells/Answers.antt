use native.Mathlib.Omega.{arith}
use Rattle.grid_filling.proofs.FillLaws.{cell-asked, cell-turn}
use Rattle.grid_filling.proofs.fill_cells.Goals as goal

pub fill_cell-next-requires : goal.fill_cell-next-requires
fill_cell-next-requires c =
    let p = cell-asked _ c.args.list.valid c.args.line c.requires.line_bound c.requires.ready c.args.row.now c.requires.row_value c.loop-gz.gz c.loop-gz-test.true c.loop-gz.invariant c.cells_of-base.ensures
    (omega (arith, c.requires.row_in_bounds)) in
    record { cell_lt_base = rw (c.from.ensures, c.from-in-loop-gz.ensures) p.0; base_le_at = p.1.0; at_bound = p.1.1.0; all_below = p.1.1.1.0; row_in_bounds = p.1.1.1.1.0; row_in_bounds_2 = p.1.1.1.1.1 }

pub loop-gz-preserved : goal.loop-gz-preserved
loop-gz-preserved c = let i = c.loop-gz in
    let filled = c.fill_cell-next in
    let turn = c.loop-gz-test.true in
    let cells = c.cells_of-base.ensures in
    let next = cell-turn _ c.args.list.valid c.args.line c.requires.line_bound c.requires.ready c.args.row.now c.requires.row_value i.gz turn i.invariant cells (rw (c.from.ensures, c.from-in-loop-gz.ensures) at filled.ensures) in
    next
