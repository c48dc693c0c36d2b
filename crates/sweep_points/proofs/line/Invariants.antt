-- Column after column, by the bits that name them.
use Prim.Native.Nat.{◌+◌}
use lib.Bits.{bit_or}
use lib.ListN.{get_or}
use Rattle.sweep_image.specs.Images.{columns}
use Rattle.sweep_tally.specs.Found.{state}
use Rattle.sweep_columns.specs.Columns.{column_at}
use Rattle.sweep_columns.proofs.Visits.{Visited}
use Rattle.sweep_points.proofs.line.Given as goal

abbrev pub invariant-loop-m : goal.invariant-loop-m
invariant-loop-m l = Visited (columns l.field) (bit_or (get_or l.names l.y 0) (get_or l.names (l.y + 1) 0)) (column_at l.x l.y l.l l.u) l.m (state l.initial.s l.initial.buf) (state l.s l.buf)

abbrev pub decreases-loop-m : goal.decreases-loop-m
decreases-loop-m l = l.m
