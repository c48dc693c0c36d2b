-- The corners of a plane across x, of boxes that begin on it or before it, and the images of the layers about it.
use Rattle.std.specs.Prelude.{◌≡◌, ◌≢◌, List, ℕ, ◌+◌, ◌≤◌, ◌<◌}
use Rattle.lattice.specs.Cells.{plane_points}
use Rattle.lattice.specs.Boxes.{box_at, box_cells}
use Rattle.lattice_sums.specs.CornerSums.{Room}
use Rattle.sweep_image.specs.Images.{Layer, Shows}
use Rattle.sweep_names.specs.Names.{Lent}
use Rattle.sweep_tally.specs.Found.{Found, found}
use Rattle.sweep_points.specs.Points.{plane_at}

-- both images show a layer
pub record Both (field : ℕ) (f : Layer) (l u names : List ℕ) : Type 0 where
  pub lent : Lent field l u names
  pub lower : Shows field f l
  pub upper : Shows field f u

-- g is f with the corners of the plane x of the first n boxes
pub record PlaneOut (field : ℕ) (boxes : List ℕ) (x n : ℕ) (f g : Found) : Type 0 where
  pub is : g ≡ found f (plane_at field x (box_cells boxes n))
  pub room : Room g.sums (f.sums.corners + plane_points 1024)

-- a count of the first n boxes that end on the plane x is 0 only where none does
pub record EndsOn (boxes : List ℕ) (x n ends : ℕ) : Type 0 where
  pub few : ends ≤ 4096
  pub no_end : ends ≡ 0 → (i : ℕ) → i < n → (box_at boxes i).x_end ≢ x
