-- The row is the slab narrowed on y.
use mathlib.Core.Path.{ap, ◌∙◌}
use native.Mathlib.Omega.{arith}
use lib.ListN.{length}
use Rattle.grid_filling.proofs.FrontLaws.{front-taken}
use Rattle.grid_filling.proofs.FillLaws.{row-asked, row-few, row_is}
use Rattle.grid_filling.proofs.fill_row.Goals as goal

pub narrow-n-requires : goal.narrow-n-requires
narrow-n-requires c =
    let p = row-asked _ c.args.list.valid c.args.gx c.requires.gx_lt_grid c.args.slab.now c.requires.slab_value c.requires.in_bounds.0 in
    record { all_below = p.0; from_in_bounds = p.1 }

pub fill_cells-requires-clause-row_value : goal.fill_cells-requires-clause-row_value
fill_cells-requires-clause-row_value c =
    rw (c.from.ensures, c.from-2.ensures, c.from-3.ensures) (front-taken c.narrow-n.ensures ∙ row_is _ c.args.list.valid c.args.gx c.requires.gx_lt_grid c.args.gy c.requires.gy_lt_grid c.args.slab.now c.requires.slab_value)

pub fill_cells-requires-clause-row_in_bounds : goal.fill_cells-requires-clause-row_in_bounds
fill_cells-requires-clause-row_in_bounds c =
    omega (arith, ap length (front-taken c.narrow-n.ensures), row-few _ c.args.list.valid c.args.gx c.requires.gx_lt_grid c.args.gy c.args.slab.now c.requires.slab_value, c.requires.in_bounds.1)
