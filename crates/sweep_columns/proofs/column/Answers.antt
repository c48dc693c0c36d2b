-- The four words about the line.
use Rattle.sweep_columns.specs.Columns.{column_at}
use Rattle.sweep_columns.proofs.column.Goals as goal

pub returns : goal.returns
unfolding column_at
returns c = rw c.from-j.ensures at c.points.ensures
