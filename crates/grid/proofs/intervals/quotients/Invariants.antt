-- The numbers passed have their quotients.
use Rattle.grid.specs.Quotients.{Quotients}
use Rattle.grid.proofs.intervals.quotients.Given as goal

abbrev pub invariant-loop-at : goal.invariant-loop-at
invariant-loop-at l = Quotients l.width l.at l.table
