-- The interval of each digit.
use native.Mathlib.Omega.{arith}
use Rattle.crediting.proofs.FieldLaws.{digit-x, digit-y, digit-z, interval-in}
use Rattle.crediting.proofs.block_of.Goals as goal

pub interval-requires : goal.interval-requires
interval-requires c = rw c.from-n.ensures (record { width_bound = interval-in c.args.grid _ _ (digit-x c.args.grid c.args.cell c.requires.le_grid c.requires.cell_bound) c.requires.field_bound; number_bound = omega (arith, digit-x c.args.grid c.args.cell c.requires.le_grid c.requires.cell_bound, c.requires.grid_bound) })

pub interval-requires-2 : goal.interval-requires-2
interval-requires-2 c = rw c.from-n.ensures (record { width_bound = interval-in c.args.grid _ _ (digit-y c.args.grid c.args.cell c.requires.le_grid) c.requires.field_bound; number_bound = omega (arith, digit-y c.args.grid c.args.cell c.requires.le_grid, c.requires.grid_bound) })

pub interval-requires-3 : goal.interval-requires-3
interval-requires-3 c = rw c.from-n.ensures (record { width_bound = interval-in c.args.grid _ _ (digit-z c.args.grid c.args.cell c.requires.le_grid) c.requires.field_bound; number_bound = omega (arith, digit-z c.args.grid c.args.cell c.requires.le_grid, c.requires.grid_bound) })

pub returns : goal.returns
returns c = rw (c.interval.ensures, c.interval-2.ensures, c.interval-3.ensures, c.from-n.ensures)
