-- The grid cells, one starting place more, and the pairs.
use Rattle.std.proofs.Common.{arith}
use Rattle.grid.proofs.CellLaws.{cube-most}
use Rattle.grid.proofs.NeedLaws.{pairs-most, need-by-pairs}
use Rattle.grid.proofs.need.need.Goals as goal

pub overflow_add-result-2 : goal.overflow_add-result-2
overflow_add-result-2 c = omega (arith, cube-most c.args.list.job.grid c.args.list.valid.grid_most, c.cells_of.ensures, c.pairs.ensures, pairs-most _ c.args.list.valid)

pub returns : goal.returns
returns c = need-by-pairs _ c.cells_of.ensures c.pairs.ensures
