use mathlib.Core.Path.{refl}
use native.Mathlib.Omega.{arith}
use Rattle.price_bands.proofs.CheckLaws.{held-here, not-held, none-holds}
use Rattle.price_bands.proofs.lookup.Goals as goal

pub loop-band-init : goal.loop-band-init
loop-band-init c = refl

pub returns-then-holds : goal.returns-then-holds
returns-then-holds c = held-here _ _ c.loop-band-test.true c.loop-band.invariant c.if-holds.ensures

pub loop-band-preserved : goal.loop-band-preserved
loop-band-preserved c = not-held _ _ c.loop-band-test.true c.loop-band.invariant c.if-holds.ensures

pub returns : goal.returns
returns c = none-holds _ _ (omega arith) c.loop-band.invariant
