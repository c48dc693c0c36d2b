-- The shots passed that meet the interval are at the front, in their order.
use Rattle.std.proofs.Common.{take}
use Rattle.grid_filling.specs.Filling.{Front, narrowed}
use Rattle.grid_filling.proofs.narrow.Given as goal

abbrev pub invariant-loop-shot : goal.invariant-loop-shot
invariant-loop-shot l = Front l.to l.kept (narrowed l.axis l.width l.interval l.edge l.coords (take l.shot-index l.from))
