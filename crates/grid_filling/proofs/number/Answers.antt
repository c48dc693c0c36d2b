use Rattle.std.proofs.Common.{arith}
use Rattle.grid_filling.proofs.StoreLaws.{numbered-none, numbered-turn}
use Rattle.grid_filling.proofs.number.Goals as goal

pub loop-number-init : goal.loop-number-init
loop-number-init c = numbered-none c.args.places.now

pub loop-number-preserved : goal.loop-number-preserved
loop-number-preserved c = numbered-turn c.args.places.now c.loop-number.number (omega arith) c.loop-number.invariant
