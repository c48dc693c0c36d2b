-- The places passed hold their own numbers.
use Rattle.std.proofs.Common.{◌≡◌, ◌++◌, drop}
use Rattle.ground.specs.Numbers.{up_to}
use Rattle.grid_filling.proofs.number.Given as goal

abbrev pub invariant-loop-number : goal.invariant-loop-number
invariant-loop-number l = l.places ≡ up_to l.number ++ drop l.number l.initial.places
