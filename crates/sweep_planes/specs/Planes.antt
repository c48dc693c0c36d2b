-- The corners of boxes, plane after plane; the boxes rise by where they begin on x.
use Rattle.std.specs.Prelude.{◌≡◌, List, [], ℕ, ◌≤◌, ◌<◌}
use Rattle.ground.specs.Sums.{join}
use Rattle.lattice.specs.Cells.{Cells}
use Rattle.lattice.specs.Listing.{Corner, corners}
use Rattle.lattice.specs.Boxes.{box_at}
use Rattle.lattice_sums.specs.CornerSums.{sums_of}
use Rattle.lattice_sums.specs.declared.sums.CornerSums.{CornerSums}
use Rattle.sweep_tally.specs.Found.{state, found}
use Rattle.sweep_points.specs.Points.{plane_at}

-- before the plane x: the boxes before `from` end before it, those before `old` begin before it, the others on it or past it
pub record Before (boxes : List ℕ) (count x from old : ℕ) : Type 0 where
  pub from_old : from ≤ old
  pub old_count : old ≤ count
  pub passed : (i : ℕ) → i < from → (box_at boxes i).x_end < x
  pub begun : (i : ℕ) → i < old → (box_at boxes i).x < x
  pub later : (i : ℕ) → old ≤ i → i < count → x ≤ (box_at boxes i).x

-- the corners of the planes below k of a field of side n
unfoldable pub corners_below : ℕ → ℕ → Cells → List Corner
corners_below n k s = join k λ x. plane_at n x s

-- the sums r of all corners of a solid, and the buffer with their records as far as it has room
abbrev pub AllFound : ℕ → Cells → List ℕ → CornerSums → List ℕ → Type 0
AllFound n s before r after = state r after ≡ found (state (sums_of []) before) (corners n s)
