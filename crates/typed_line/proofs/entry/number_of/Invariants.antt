-- The invariant: the digits to come, after those worth `number`, are worth what all are; `number` is small. A large number stays large.
use mathlib.Core.Path.{◌≡◌}
use Prim.Native.Nat.{◌≤◌}
use lib.ListN.{drop}
use Rattle.text_parts.specs.Decimal.{value_from}
use Rattle.typed_line.proofs.entry.number_of.Given as goal

abbrev pub invariant-loop-digit : goal.invariant-loop-digit
invariant-loop-digit l = (l.number ≤ 65535) × (value_from l.number (drop l.digit-index l.word) ≡ value_from 0 l.word)
