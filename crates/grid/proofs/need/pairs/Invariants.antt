-- The sum over the shots so far; at the end the two orders of counting agree.
use Rattle.std.proofs.Common.{◌≡◌}
use Rattle.ground.specs.Sums.{total}
use Rattle.job.specs.Job.{seen}
use Rattle.grid.specs.Grid.{pairs_of}
use Rattle.grid.proofs.need.pairs.Given as goal

abbrev pub invariant-loop-shot : goal.invariant-loop-shot
invariant-loop-shot l = l.sum ≡ total l.shot (pairs_of (seen l.list.job))
