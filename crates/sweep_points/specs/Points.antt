-- The corners of a plane across x, read from the images of the layers below and above it.
use Rattle.std.specs.Prelude.{◌≡◌, List, ℕ, suc, ◌+◌}
use Rattle.lattice.specs.Cells.{Cells, Within, below, plane_points}
use Rattle.ground.specs.Sums.{join}
use Rattle.lattice.specs.Listing.{Corner, here}
use Rattle.lattice_sums.specs.CornerSums.{Room}
use Rattle.sweep_image.specs.Images.{Shows, columns}
use Rattle.sweep_tally.specs.Found.{Found, found}
use Rattle.sweep_columns.specs.Columns.{column_at}

-- the corner points of the plane x of a field of side n, rising by y, then z
unfoldable pub plane_at : ℕ → ℕ → Cells → List Corner
plane_at n x s = join (suc n) λ y. join (suc n) λ z. here s x y z

-- l and u show the layers below and above the plane x of a solid within a field of side n
pub record Shown (n x : ℕ) (l u : List ℕ) (s : Cells) : Type 0 where
  pub within : Within n s
  pub lower : Shows n (λ y z. below s x y z) l
  pub upper : Shows n (λ y z. below s (suc x) y z) u

-- they show those of some solid
pub record Layers (n x : ℕ) (l u : List ℕ) : Type 0 where
  pub solid : Cells
  pub shown : Shown n x l u solid

-- g is f with the corners of the plane x of the solid that l and u show
pub record PlaneFound (n x : ℕ) (l u : List ℕ) (f g : Found) : Type 0 where
  pub is : (s : Cells) → Shown n x l u s → g ≡ found f (plane_at n x s)
  pub room : Room g.sums (f.sums.corners + plane_points 1024)

-- the corners of line y between two images, column after column
unfoldable pub line_at : ℕ → ℕ → List ℕ → List ℕ → ℕ → List Corner
line_at n x l u y = join (columns n) (column_at x y l u)
