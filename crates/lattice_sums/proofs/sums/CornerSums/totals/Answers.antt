-- The sums come to some totals, so that none is negative.
use Rattle.lattice.specs.Figures.{Volume, Area, EdgeLength, InnerLength}
use native.Mathlib.Omega.{arith}
use Rattle.std.proofs.lemmas.Int.{ints}
use Rattle.lattice_sums.proofs.sums.CornerSums.totals.Goals as goal

pub overflow_cast-result : goal.overflow_cast-result
overflow_cast-result c = let e = c.requires.1.figure_is Volume in (grind (arith, ints), grind (arith, ints))

pub overflow_cast-result-2 : goal.overflow_cast-result-2
overflow_cast-result-2 c = let e = c.requires.1.figure_is Area in (grind (arith, ints), grind (arith, ints))

pub overflow_cast-result-3 : goal.overflow_cast-result-3
overflow_cast-result-3 c = let e = c.requires.1.figure_is EdgeLength in (grind (arith, ints), grind (arith, ints))

pub overflow_cast-result-4 : goal.overflow_cast-result-4
overflow_cast-result-4 c = let e = c.requires.1.figure_is InnerLength in (grind (arith, ints), grind (arith, ints))
