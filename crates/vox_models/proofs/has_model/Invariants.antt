-- The invariant: some chunk from the place on is a model exactly if some chunk from the start on is.
use mathlib.Core.Path.{◌≡◌}
use Prim.Native.Nat.{◌-◌}
use lib.ListN.{length}
use Rattle.vox_models.specs.Models.{model_from}
use Rattle.vox_models.proofs.has_model.Given as goal

abbrev pub invariant-loop-at : goal.invariant-loop-at
invariant-loop-at l = model_from l.bytes l.at ≡ model_from l.bytes l.start

abbrev pub decreases-loop-at : goal.decreases-loop-at
decreases-loop-at l = length l.bytes - l.at
