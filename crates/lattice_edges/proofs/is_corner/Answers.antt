-- The pattern changes across every axis.
use native.Mathlib.Omega.{arith}
use Rattle.std.proofs.lemmas.Bool.Decides.{nat_tests}
use Rattle.lattice_edges.proofs.EdgeLaws.{each-axis}
use Rattle.lattice_edges.proofs.is_corner.Goals as goal

pub returns-then-p-ne0 : goal.returns-then-p-ne0
returns-then-p-ne0 c = let e = each-axis c.args.p c.ranges.p.fits in grind (arith, nat_tests)

pub returns-else-p-ne0 : goal.returns-else-p-ne0
returns-else-p-ne0 c = let e = each-axis c.args.p c.ranges.p.fits in grind (arith, nat_tests)
