-- The cells of the row so far are in.
use Rattle.std.proofs.Common.{◌+◌, ◌*◌}
use Rattle.job.specs.Job.{seen}
use Rattle.grid.specs.Grid.{run_of}
use Rattle.grid_filling.specs.Filling.{Grew}
use Rattle.grid_filling.proofs.fill_cells.Given as goal

abbrev pub invariant-loop-gz : goal.invariant-loop-gz
invariant-loop-gz l = Grew (run_of (seen l.list.job)) (l.list.job.grid * l.list.job.grid * l.list.job.grid) (l.line * l.list.job.grid) (l.line * l.list.job.grid + l.gz) l.initial.work l.work l.next
