-- A rectangle without cells stays; one that no box meets is painted; else the parts around the last box that meets it are painted, with the
-- boxes before it, and what is left is that box's. The measure is the number of the boxes.
use Prim.Native.Nat.{◌-◌}
use Rattle.sweep_names.specs.Names.{Tells}
use Rattle.sweep_painting.specs.Painting.{Painted}
use Rattle.sweep_overlaps.proofs.PartLaws.{parts_to}
use Rattle.sweep_painting.proofs.+paint_parts.Given as goal

abbrev pub decreases-paint_parts : goal.decreases-paint_parts
decreases-paint_parts l = l.to - l.from

abbrev pub invariant-loop-side : goal.invariant-loop-side
invariant-loop-side l = Painted l.field l.boxes l.x l.to (parts_to l.r l.core l.side-index) l.initial.u l.u × Tells l.field l.l l.u l.names
