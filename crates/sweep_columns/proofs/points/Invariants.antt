-- Corner after corner, by the bits of their mask.
use Rattle.sweep_tally.specs.Found.{state}
use Rattle.sweep_columns.specs.Columns.{corner_at}
use Rattle.sweep_columns.proofs.Visits.{Visited}
use Rattle.sweep_columns.proofs.points.Given as goal

abbrev pub invariant-loop-m : goal.invariant-loop-m
invariant-loop-m l = Visited 63 l.initial.m (corner_at l.x l.y l.k l.l0 l.l1 l.u0 l.u1) l.m (state l.initial.s l.initial.buf) (state l.s l.buf)

abbrev pub decreases-loop-m : goal.decreases-loop-m
decreases-loop-m l = l.m
