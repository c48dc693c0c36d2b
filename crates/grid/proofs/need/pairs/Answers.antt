use Rattle.std.proofs.Common.{◌+◌, arith}
use Rattle.job.specs.Job.{seen}
use Rattle.grid.proofs.NeedLaws.{pairs-none, pairs_next, pairs-few, pairs-all}
use Rattle.grid.proofs.need.pairs.Goals as goal

pub loop-shot-init : goal.loop-shot-init
loop-shot-init c = pairs-none (seen c.args.list.job)

pub overflow_add-sum : goal.overflow_add-sum
overflow_add-sum c = omega (
  arith,
  c.args.list.valid.few,
  pairs_next (seen c.args.list.job) c.loop-shot.shot c.loop-shot.invariant c.pairs_of-sum.ensures,
  pairs-few (seen c.args.list.job)
      c.args.list.valid.grid_most (c.loop-shot.shot + 1),
)

pub loop-shot-preserved : goal.loop-shot-preserved
loop-shot-preserved c = pairs_next (seen c.args.list.job) c.loop-shot.shot c.loop-shot.invariant c.pairs_of-sum.ensures

pub returns : goal.returns
returns c = pairs-all (seen c.args.list.job) c.loop-shot.shot (omega arith) c.loop-shot.invariant
