-- The slab is all shots narrowed on x.
use mathlib.Core.Path.{◌∙◌}
use borrow.Author.Rules.{rules}
use Rattle.grid_filling.proofs.FrontLaws.{front-taken}
use Rattle.grid_filling.proofs.FillLaws.{slab-asked, slab-is}
use Rattle.grid_filling.proofs.fill_slab.Goals as goal

pub narrow-n-requires : goal.narrow-n-requires
narrow-n-requires c =
    let p = slab-asked _ c.args.list.valid c.args.gx c.requires.gx_lt_grid c.args.all.now c.requires.all_value in
    record { all_below = p.0; from_in_bounds = p.1 }

pub fill_rows-requires : goal.fill_rows-requires
fill_rows-requires c = record { gx_lt_grid = c.requires.gx_lt_grid; slab_value = front-taken c.narrow-n.ensures ∙ slab-is _ c.args.list.valid c.args.gx c.requires.gx_lt_grid c.args.all.now c.requires.all_value; in_bounds = (search rules, search rules); ready = c.requires.ready }
