-- After the rectangle is cleared, it shows the boxes before the number of the loop; no word but those of the rectangle changes.
use Rattle.sweep_image.specs.Images.{Turned, Beside}
use Rattle.sweep_overlaps.specs.Overlaps.{shade_from}
use Rattle.sweep_carving.specs.Carving.{joined}
use Rattle.sweep_carving.proofs.again.Given as goal

abbrev pub invariant-loop-i : goal.invariant-loop-i
invariant-loop-i l = Turned l.field (joined l.r (shade_from l.boxes l.x l.from l.i)) l.initial.u l.u × Beside l.r l.initial.u l.u
