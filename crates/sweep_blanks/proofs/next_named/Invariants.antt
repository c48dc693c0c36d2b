-- Every row passed over names no column.
use Prim.Native.Nat.{◌+◌, ◌-◌, ◌≤◌}
use Rattle.sweep_blanks.specs.Blanks.{Blank}
use Rattle.sweep_blanks.proofs.next_named.Given as goal

abbrev pub invariant-loop-i : goal.invariant-loop-i
invariant-loop-i l = (l.y ≤ l.i) × (l.i ≤ l.end + 8) × Blank l.names l.y l.i

abbrev pub decreases-loop-i : goal.decreases-loop-i
decreases-loop-i l = l.end - l.i
