-- No band so far holds the amount. Assumes nothing.
use Rattle.price_bands.proofs.CheckLaws.{Rest}
use Rattle.price_bands.proofs.lookup.Given as goal

abbrev pub invariant-loop-band : goal.invariant-loop-band
invariant-loop-band l = Rest l.bands l.amount l.band-index
