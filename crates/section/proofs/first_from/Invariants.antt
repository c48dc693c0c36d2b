-- No record up to the number of the loop passes, whatever test it is that the closure makes.
use Prim.Native.Nat.{ℕ}
use mathlib.Core.Path.{◌≡◌}
use mathlib.Core.Bool.{Bool}
use Rattle.section.proofs.RunLaws.{Sought}
use Rattle.section.proofs.first_from.Given as goal

abbrev pub invariant-loop-number : goal.invariant-loop-number
invariant-loop-number g l = (p : ℕ → Bool) → ((x : ℕ) (r : Bool) → goal.F-post g l.passes x r → r ≡ p x) → Sought p l.listing l.from l.number
