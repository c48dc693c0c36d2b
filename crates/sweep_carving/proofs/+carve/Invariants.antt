-- A rectangle without cells stays; one that no box meets is wiped; else the parts around the first box that meets it are carved by
-- the boxes after it. The measure is the number of the boxes.
use Prim.Native.Nat.{◌-◌}
use Rattle.sweep_names.specs.Names.{Tells}
use Rattle.sweep_overlaps.proofs.PartLaws.{parts_to}
use Rattle.sweep_carving.proofs.CarvingLaws.{Partly}
use Rattle.sweep_carving.proofs.+carve.Given as goal

abbrev pub decreases-carve : goal.decreases-carve
decreases-carve l = l.to - l.from

abbrev pub invariant-loop-side : goal.invariant-loop-side
invariant-loop-side l = Partly l.field l.boxes l.x l.from l.to l.r (parts_to l.r l.core l.side-index) l.initial.u l.u × Tells l.field l.l l.u l.names
