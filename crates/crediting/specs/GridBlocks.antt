-- The field grid cell by grid cell, as blocks of unit cells: the words of the functions that credit them.
use Rattle.std.specs.Prelude.{ℕ, ◌+◌, ◌*◌, ◌/◌, ◌%◌}
use Rattle.job.specs.Job.{Job}
use Rattle.crediting_carving.specs.Blocks.{count_in}
use Rattle.crediting_carving.specs.declared.blocks.Span.{Span}
use Rattle.crediting_carving.specs.declared.blocks.Block.{Block}
use Rattle.crediting.specs.Credits.{credited_to}

-- the unit cells of interval g of width s of an axis, and of a grid cell
abbrev pub interval_of : ℕ → ℕ → Span
interval_of s g = record { from = g * s; to = (g + 1) * s }

abbrev pub block_of : ℕ → ℕ → ℕ → Block
block_of F G cell =
    record { x = interval_of (F / G) (cell / G / G); y = interval_of (F / G) (cell / G % G); z = interval_of (F / G) (cell % G) }

-- of how many unit cells of a grid cell shot s is the lowest covering shot
unfoldable pub cell_credits : Job → ℕ → ℕ → ℕ
cell_credits job cell s = count_in (block_of job.field job.grid cell) (credited_to job.edge job.coords s)
