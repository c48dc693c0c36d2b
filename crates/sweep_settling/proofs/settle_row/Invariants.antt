-- The columns that are left of the row's name are yet to be copied.
use mathlib.Core.Path.{◌≡◌}
use lib.ListN.{length, set}
use Rattle.sweep_names.specs.Names.{Tells}
use Rattle.sweep_settling.proofs.settle_row.Given as goal

abbrev pub invariant-loop-m : goal.invariant-loop-m
invariant-loop-m l = Tells l.field l.l l.u (set l.names l.y l.m) × (length l.l ≡ length l.initial.l)

abbrev pub decreases-loop-m : goal.decreases-loop-m
decreases-loop-m l = l.m
