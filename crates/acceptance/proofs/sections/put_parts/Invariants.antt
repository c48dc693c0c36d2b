-- The parts of the numbers before that of the loop stand at the front.
use Prim.Native.Nat.{◌≤◌, ◌-◌}
use Rattle.acceptance.proofs.SectionParts.{Joined}
use Rattle.acceptance.proofs.sections.put_parts.Given as goal

abbrev pub invariant-loop-x : goal.invariant-loop-x
invariant-loop-x l = (l.x ≤ l.side) × Joined l.listing l.initial.out l.out l.side l.next l.x

abbrev pub decreases-loop-x : goal.decreases-loop-x
decreases-loop-x l = l.side - l.x
