-- `put` stores the numbers of a shot. Assumes nothing.
use native.Mathlib.Omega.{arith}
use lib.ListN.{length-set}
use Rattle.job.proofs.Storing.{shot-stored}
use Rattle.job.proofs.shot.put.Goals as goal

pub bounds-coords-at-2 : goal.bounds-coords-at-2
bounds-coords-at-2 c = simp length-set (omega arith)

pub bounds-coords-at-3 : goal.bounds-coords-at-3
bounds-coords-at-3 c = simp length-set (omega arith)

pub returns : goal.returns
returns c = shot-stored _ _ _ _ _ c.requires
