-- The numbers read so far that reach the line are written, in their order.
use Rattle.std.proofs.Common.{take}
use Rattle.buffer.specs.Wrote.{Wrote}
use Rattle.ground.specs.Numbers.{those}
use Rattle.measure_lines.specs.Lines.{reaches_line}
use Rattle.measure_lines.proofs.narrow_to_line.Given as goal

abbrev pub invariant-loop-shot : goal.invariant-loop-shot
invariant-loop-shot l = Wrote l.initial.to l.to 0 l.next (those (reaches_line l.edge l.coords l.x l.y) (take l.shot-index l.run))
