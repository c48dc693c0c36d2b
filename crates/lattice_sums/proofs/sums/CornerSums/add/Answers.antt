-- Each sum has room for one more term of at most 2³².
use native.Mathlib.Omega.{arith}
use Rattle.std.proofs.lemmas.Int.{ints}
use Rattle.lattice.specs.Figures.{Volume, Area, EdgeLength, InnerLength}
use Rattle.lattice_sums.proofs.CornerSumLaws.{sum_bound, added-is}
use Rattle.lattice_sums.proofs.sums.CornerSums.add.Goals as goal

pub overflow_add-result : goal.overflow_add-result
overflow_add-result c = let room = sum_bound Volume c.args.self c.requires.3 in omega (arith, ints)

pub overflow_add-result-2 : goal.overflow_add-result-2
overflow_add-result-2 c = let room = sum_bound Area c.args.self c.requires.3 in omega (arith, ints)

pub overflow_add-result-3 : goal.overflow_add-result-3
overflow_add-result-3 c = let room = sum_bound EdgeLength c.args.self c.requires.3 in omega (arith, ints)

pub overflow_add-result-4 : goal.overflow_add-result-4
overflow_add-result-4 c = let room = sum_bound InnerLength c.args.self c.requires.3 in omega (arith, ints)

pub returns : goal.returns
returns c = let self = c.args.self in
    let volume = sum_bound Volume self c.requires.3 in
    let area = sum_bound Area self c.requires.3 in
    let edge = sum_bound EdgeLength self c.requires.3 in
    let inner = sum_bound InnerLength self c.requires.3 in
    added-is self _ (omega (arith, ints)) (omega (arith, ints)) (omega (arith, ints)) (omega (arith, ints))
