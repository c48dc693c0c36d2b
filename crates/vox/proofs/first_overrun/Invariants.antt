-- The invariant: the first overrun from the place on is that from the start on.
use mathlib.Core.Path.{◌≡◌}
use Prim.Native.Nat.{◌-◌}
use lib.ListN.{length}
use Rattle.vox.specs.Vox.{overrun_from}
use Rattle.vox.proofs.first_overrun.Given as goal

abbrev pub invariant-loop-at : goal.invariant-loop-at
invariant-loop-at l = overrun_from l.bytes l.at ≡ overrun_from l.bytes l.start

abbrev pub decreases-loop-at : goal.decreases-loop-at
decreases-loop-at l = length l.bytes - l.at
