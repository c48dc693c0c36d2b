-- The run of the grid cell carves its block.
use mathlib.Core.Path.{◌∙◌}
use native.Mathlib.Omega.{arith}
use Rattle.job.specs.Job.{seen}
use Rattle.grid.proofs.ShotLaws.{width-times}
use Rattle.grid_runs.proofs.ReadLaws.{holds-starts, holds-run}
use Rattle.crediting.proofs.FieldLaws.{block-small, cell-credited}
use Rattle.crediting.proofs.credit_cell.Goals as goal

pub cells_of-requires : goal.cells_of-requires
cells_of-requires c = c.args.list.holds.valid.grid_most

pub run_of-run-requires : goal.run_of-run-requires
run_of-run-requires c = rw c.cells_of.ensures (holds-starts (seen c.args.list.job) c.args.list.work.now c.args.list.holds c.args.cell 1 (omega (arith, c.requires.cell_bound)))

pub block_of-block-requires : goal.block_of-block-requires
block_of-block-requires c = record { le_grid = c.args.list.holds.valid.grid_least; grid_bound = c.args.list.holds.valid.grid_most; field_bound = omega (arith, width-times c.args.list.holds.valid, c.args.list.holds.valid.field_most); cell_bound = c.requires.cell_bound }

pub carve-requires : goal.carve-requires
carve-requires c = rw c.block_of-block.ensures record { small = block-small c.args.list.holds.valid c.args.cell c.requires.cell_bound; coords_in_bounds = c.requires.shots_placed; room_for = c.requires.room_for }

pub returns : goal.returns
returns c = cell-credited c.args.list.holds.valid c.args.cell c.requires.cell_bound
    (c.run_of-run.ensures ∙ rw c.cells_of.ensures
    (holds-run (seen c.args.list.job) c.args.list.work.now c.args.list.holds c.args.cell (omega (arith, c.requires.cell_bound)))) c.block_of-block.ensures c.args.credits.now
    c.carve.ensures
