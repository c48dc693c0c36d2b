-- Each square is two bits of the byte.
use mathlib.Core.Path.{◌∙◌}
use native.Mathlib.Omega.{arith}
use Rattle.measure_tallies.proofs.TallyLaws.{bit-is, squares-are}
use Rattle.measure_tallies.proofs.squares.Goals as goal

pub returns : goal.returns
returns c = squares-are c.args.p (omega arith) (c.from.ensures ∙ bit-is _) (c.from-2.ensures ∙ bit-is _) (c.from-3.ensures ∙ bit-is _)
