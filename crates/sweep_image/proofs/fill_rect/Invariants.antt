-- The columns before that of the loop are filled or emptied.
use Prim.Native.Nat.{◌/◌, ◌≤◌}
use Rattle.sweep_image.specs.Images.{Beside}
use Rattle.sweep_image.proofs.ImageLaws.{FilledTo}
use Rattle.sweep_image.proofs.fill_rect.Given as goal

abbrev pub invariant-loop-k : goal.invariant-loop-k
invariant-loop-k l = (l.r.from / 63 ≤ l.k) × FilledTo l.fill l.r l.k l.initial.u l.u × Beside l.r l.initial.u l.u
