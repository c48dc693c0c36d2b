-- No box from the number of the loop on meets the rectangle; so the first that does on the way down, or `from`, is the answer.
use Rattle.sweep_overlaps.proofs.ShadeLaws.{Down}
use Rattle.sweep_overlaps.proofs.last_meeting.Given as goal

abbrev pub invariant-loop-i : goal.invariant-loop-i
invariant-loop-i l = Down l.boxes l.x l.from l.to l.r l.i
