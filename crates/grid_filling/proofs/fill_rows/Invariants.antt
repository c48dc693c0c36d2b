-- The rows of the slab so far are in.
use Rattle.std.proofs.Common.{◌+◌, ◌*◌}
use Rattle.job.specs.Job.{seen}
use Rattle.grid.specs.Grid.{run_of}
use Rattle.grid_filling.specs.Filling.{Grew}
use Rattle.grid_filling.proofs.fill_rows.Given as goal

abbrev pub invariant-loop-gy : goal.invariant-loop-gy
invariant-loop-gy l = Grew (run_of (seen l.list.job)) (l.list.job.grid * l.list.job.grid * l.list.job.grid) (l.gx * l.list.job.grid * l.list.job.grid) ((l.gx * l.list.job.grid + l.gy) * l.list.job.grid) l.initial.work l.work l.next
