-- The wrapped difference decides.
use Rattle.std.proofs.Common.{arith}
use Rattle.grid.proofs.TouchLaws.{meets-wrapped}
use Rattle.grid.proofs.intervals.interval_meets.Goals as goal

pub returns : goal.returns
returns c = let a = c.args in
    rw (c.from.ensures, c.from-2.ensures, c.from-3.ensures, c.from-4.ensures, c.from-5.ensures, c.from-6.ensures) (meets-wrapped a.width a.interval a.at a.edge (omega arith) (omega arith) (omega arith) (omega arith))
