-- The products of two coordinates are at most 2²⁰.
use native.Mathlib.Omega.{arith}
use Rattle.std.proofs.lemmas.Int.{ints}
use Rattle.std.proofs.lemmas.Grind.{common_steps}
use Rattle.lattice.proofs.TermBounds.{two-small}
use Rattle.lattice_sums.proofs.sums.Corner.area_term.Goals as goal

pub overflow_add-result-2 : goal.overflow_add-result-2
overflow_add-result-2 c =
    let u = two-small c.from-y.result c.from-z.result (omega arith) (omega arith) in
    let v = two-small c.from-x.result c.from-z.result (omega arith) (omega arith) in
    let w = two-small c.from-x.result c.from-y.result (omega arith) (omega arith) in
    omega (arith, ints)

pub returns-clause-term : goal.returns-clause-term
returns-clause-term c =
    let u = two-small c.from-y.result c.from-z.result (omega arith) (omega arith) in
    let v = two-small c.from-x.result c.from-z.result (omega arith) (omega arith) in
    let w = two-small c.from-x.result c.from-y.result (omega arith) (omega arith) in
    grind (arith, common_steps)

pub returns-clause-bound : goal.returns-clause-bound
returns-clause-bound c =
    let u = two-small c.from-y.result c.from-z.result (omega arith) (omega arith) in
    let v = two-small c.from-x.result c.from-z.result (omega arith) (omega arith) in
    let w = two-small c.from-x.result c.from-y.result (omega arith) (omega arith) in
    omega (arith, ints)
