-- Two patterns need no counting. Field by field; no point counts more than 6.
use mathlib.Core.Path.{◌≡◌, ◌∙◌, ap}
use native.Mathlib.Omega.{arith}
use Rattle.std.proofs.Common.{rules}
use Rattle.ground.specs.Numbers.{bit}
use Rattle.lattice.specs.Cells.{edge, inner_edge}
use Rattle.lattice.specs.Pattern.{of_byte}
use Rattle.measure_tallies.specs.Tallies.{at_pattern, edges_above}
use Rattle.measure_tallies.proofs.TallyLaws.{bit-is, pattern-most, plus-is, cell-is, tally-none, tally-full}
use Rattle.measure_tallies.proofs.tally.Goals as goal

pub overflow_add-result-in_default-2 : goal.overflow_add-result-in_default-2
overflow_add-result-in_default-2 c = record { fits = omega (arith, pattern-most (of_byte c.args.p), c.squares.ensures) }

pub returns-in-0 : goal.returns-in-0
returns-in-0 c = tally-none c.args.t c.args.p c.in-0.is

pub returns-in-255 : goal.returns-in-255
returns-in-255 c = tally-full c.args.t c.args.p c.in-255.is

pub returns-in_default : goal.returns-in_default
unfolding at_pattern
returns-in_default c =
    let outer : c.edges_above.result ≡ edges_above edge (of_byte c.args.p) = search (rules, c.edges_above.ensures) in
    let inner : c.edges_above-in_default.result ≡ edges_above inner_edge (of_byte c.args.p) = search (rules, c.edges_above-in_default.ensures) in
    plus-is c.args.t (at_pattern (of_byte c.args.p))
    (c.from.ensures ∙ cell-is c.args.p (omega arith))
    c.squares.ensures
    outer
    inner
    (c.from-in_default.ensures ∙ bit-is _ ∙ ap bit c.is_corner.ensures)
