-- Plane after plane.
use mathlib.Core.Path.{◌≡◌}
use Prim.Native.Nat.{◌*◌}
use Rattle.lattice.specs.Cells.{plane_points}
use Rattle.lattice.specs.Boxes.{box_cells}
use Rattle.lattice_sums.specs.CornerSums.{Room}
use Rattle.sweep_faces.specs.Layers.{touching}
use Rattle.sweep_tally.specs.Found.{state, found}
use Rattle.sweep_plane.specs.Plane.{Both}
use Rattle.sweep_planes.specs.Planes.{Before, corners_below}
use Rattle.sweep_planes.proofs.planes.Given as goal

abbrev pub invariant-loop-x : goal.invariant-loop-x
invariant-loop-x l = record {
  before : Before l.boxes l.count l.x l.from l.old;
  images : Both l.field (touching l.boxes l.x l.old) l.l l.u l.names;
  found : state l.t l.buf ≡ found (state l.initial.t l.initial.buf) (corners_below l.field l.x (box_cells l.boxes l.count));
  room : Room l.t (l.x * plane_points 1024);
}
