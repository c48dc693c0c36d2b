-- The rows before that of the loop are settled.
use mathlib.Core.Path.{◌≡◌}
use lib.ListN.{length}
use Rattle.sweep_names.specs.Names.{Tells}
use Rattle.sweep_image.specs.Changes.{Changed}
use Rattle.sweep_settling.proofs.settle_eight.Given as goal

abbrev pub invariant-loop-i : goal.invariant-loop-i
invariant-loop-i l = Tells l.field l.l l.u l.names × Changed (λ j w. 0) l.y l.i l.initial.names l.names × (length l.l ≡ length l.initial.l)
