-- The slabs so far are in.
use Rattle.std.proofs.Common.{◌*◌}
use Rattle.job.specs.Job.{seen}
use Rattle.grid.specs.Grid.{run_of}
use Rattle.grid_filling.specs.Filling.{Grew}
use Rattle.grid_filling.proofs.fill_slabs.Given as goal

abbrev pub invariant-loop-gx : goal.invariant-loop-gx
invariant-loop-gx l = Grew (run_of (seen l.list.job)) (l.list.job.grid * l.list.job.grid * l.list.job.grid) 0 (l.gx * l.list.job.grid * l.list.job.grid) l.initial.work l.work l.next
