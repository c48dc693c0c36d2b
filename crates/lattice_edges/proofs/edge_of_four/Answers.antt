-- The low four bits decide, and what they count is computed at all 256 bytes.
use native.Mathlib.Omega.{arith}
use Rattle.std.proofs.lemmas.Bool.Decides.{nat_tests}
use Rattle.lattice_edges.proofs.EdgeLaws.{low-counts}
use Rattle.lattice_edges.proofs.edge_of_four.Goals as goal

pub returns-in-0 : goal.returns-in-0
returns-in-0 c = let e = low-counts c.args.q c.ranges.q.fits in grind (arith, nat_tests)

pub returns-in-1 : goal.returns-in-1
returns-in-1 c = let e = low-counts c.args.q c.ranges.q.fits in grind (arith, nat_tests)

pub returns-in-2 : goal.returns-in-2
returns-in-2 c = let e = low-counts c.args.q c.ranges.q.fits in grind (arith, nat_tests)

pub returns-in-3 : goal.returns-in-3
returns-in-3 c = let e = low-counts c.args.q c.ranges.q.fits in grind (arith, nat_tests)

pub returns-in-4 : goal.returns-in-4
returns-in-4 c = let e = low-counts c.args.q c.ranges.q.fits in grind (arith, nat_tests)

pub returns-in-5 : goal.returns-in-5
returns-in-5 c = let e = low-counts c.args.q c.ranges.q.fits in grind (arith, nat_tests)

pub returns-in-6 : goal.returns-in-6
returns-in-6 c = let e = low-counts c.args.q c.ranges.q.fits in grind (arith, nat_tests)

pub returns-in-7 : goal.returns-in-7
returns-in-7 c = let e = low-counts c.args.q c.ranges.q.fits in grind (arith, nat_tests)

pub returns-in-8 : goal.returns-in-8
returns-in-8 c = let e = low-counts c.args.q c.ranges.q.fits in grind (arith, nat_tests)

pub returns-in-9 : goal.returns-in-9
returns-in-9 c = let e = low-counts c.args.q c.ranges.q.fits in grind (arith, nat_tests)

pub returns-in-10 : goal.returns-in-10
returns-in-10 c = let e = low-counts c.args.q c.ranges.q.fits in grind (arith, nat_tests)

pub returns-in-11 : goal.returns-in-11
returns-in-11 c = let e = low-counts c.args.q c.ranges.q.fits in grind (arith, nat_tests)

pub returns-in-12 : goal.returns-in-12
returns-in-12 c = let e = low-counts c.args.q c.ranges.q.fits in grind (arith, nat_tests)

pub returns-in-13 : goal.returns-in-13
returns-in-13 c = let e = low-counts c.args.q c.ranges.q.fits in grind (arith, nat_tests)

pub returns-in-14 : goal.returns-in-14
returns-in-14 c = let e = low-counts c.args.q c.ranges.q.fits in grind (arith, nat_tests)

pub returns-in_default : goal.returns-in_default
returns-in_default c = let e = low-counts c.args.q c.ranges.q.fits in grind (arith, nat_tests)
