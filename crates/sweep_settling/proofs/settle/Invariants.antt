-- The rows before that of the loop are settled, and none past the field names a column.
use mathlib.Core.Path.{◌≡◌}
use Prim.Native.Nat.{◌+◌, ◌-◌}
use lib.ListN.{length}
use Rattle.sweep_names.specs.Names.{Tells}
use Rattle.sweep_image.specs.Changes.{Changed}
use Rattle.sweep_settling.proofs.settle.Given as goal

abbrev pub invariant-loop-y : goal.invariant-loop-y
invariant-loop-y l = Tells l.field l.l l.u l.names × Changed (λ i w. 0) 0 l.y l.initial.names l.names × (length l.l ≡ length l.initial.l)

abbrev pub decreases-loop-y : goal.decreases-loop-y
decreases-loop-y l = l.field + 1 - l.y
