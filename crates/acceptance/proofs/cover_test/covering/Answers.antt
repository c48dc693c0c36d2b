-- The run of the grid cell that holds the cell is asked.
use mathlib.Core.Path.{◌∙◌}
use Rattle.grid.proofs.ShotLaws.{width-least}
use Rattle.acceptance.proofs.CoverTest.{run-there, run-names-lowest}
use Rattle.acceptance.proofs.cover_test.covering.Goals as goal

pub holding_cell-cell-requires : goal.holding_cell-cell-requires
holding_cell-cell-requires c = record { le_grid = c.args.list.holds.valid.grid_least; bound = width-least c.args.list.holds.valid }

pub run_of-run-requires : goal.run_of-run-requires
run_of-run-requires c = run-there c.args.list.holds c.requires c.cells_of.ensures c.holding_cell-cell.ensures

pub returns : goal.returns
returns c = c.first_covering.ensures ∙ run-names-lowest c.args.list.holds c.requires c.cells_of.ensures c.holding_cell-cell.ensures c.run_of-run.ensures
