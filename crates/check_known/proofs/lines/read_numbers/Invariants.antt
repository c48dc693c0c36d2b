-- No more numbers than the slice has places.
use Prim.Native.Nat.{◌≤◌}
use lib.ListN.{length}
use Rattle.check_known.proofs.lines.read_numbers.Given as goal

abbrev pub invariant-loop-byte : goal.invariant-loop-byte
invariant-loop-byte l = l.n ≤ length l.numbers
