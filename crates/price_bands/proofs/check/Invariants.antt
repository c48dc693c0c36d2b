-- The bands so far are good. Assumes nothing.
use Rattle.price_bands.proofs.CheckLaws.{Passed}
use Rattle.price_bands.proofs.check.Given as goal

abbrev pub invariant-loop-i : goal.invariant-loop-i
invariant-loop-i l = Passed l.bands l.due l.i
