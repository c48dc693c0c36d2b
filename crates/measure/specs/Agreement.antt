-- What condition 3 says of totals, of listing bytes and of two lists. proofs/Condition3.antt proves it of the calls. docs/SCOPE.md,
-- 'Corner points'.
use Rattle.std.specs.Prelude.{◌≡◌, ◌↔◌, false, ℕ, ◌≤◌, ◌<◌, length}
use mathlib.Core.List.{List, Memᴰ}
use Rattle.lattice.specs.Cells.{Cells}
use Rattle.lattice.specs.Figures.{Figure, cell_count, term}
use Rattle.lattice.specs.Pattern.{around, corner}
use Rattle.lattice.specs.Listing.{Corner, corners, corner_count, IsCorner, Rising, read_back, corner_sum, listed_sum}
use Rattle.lattice_sums.specs.CornerSums.{value}
use Rattle.lattice_sums.specs.declared.sums.Totals.{Totals}
use Rattle.job.specs.Job.{Job, shot, shot_count}

-- totals = cell counts = corner sums, and the corner count = the number of lattice points with a nonzero weight
pub record Agrees (F : ℕ) (s : Cells) (t : Totals) : Type 0 where
  -- each figure is its cell count
  pub counts : (f : Figure) → value f t ≡ cell_count f F s
  -- and its corner sum, over corner points only
  pub sums : (f : Figure) → value f t ≡ corner_sum (term f) (corners F s)
  -- the corner count, over the points of the field
  pub corners_count : t.corners ≡ corner_count F s
  pub corners_listed : t.corners ≡ length (corners F s)
  -- and no lattice point outside the field weighs anything
  pub outside_weighs_nothing : (x y z : ℕ) → ((x ≤ F) × (y ≤ F) × (z ≤ F) → ⊥) → corner (around s x y z) ≡ false

-- bytes that list the corner points of a solid
pub record Lists (F : ℕ) (s : Cells) (t : Totals) (bytes : List ℕ) : Type 0 where
  -- each corner point is there with its pattern, and nothing else is
  pub exactly : (v : Corner) → Memᴰ v (read_back bytes) ↔ IsCorner F s v
  -- in rising order, so each once
  pub rising : Rising (read_back bytes)
  -- the corner sums from these bytes alone are the figures
  pub sums : (f : Figure) → listed_sum (term f) bytes ≡ value f t

-- two solids cover the same cells
abbrev pub SameCells : Cells → Cells → Type 0
SameCells s u = (i j k : ℕ) → s i j k ≡ u i j k

-- every shot of the first list is one of the second
abbrev pub Among : Job → Job → Type 0
Among one two = (i : ℕ) → i < shot_count one.coords → (j : ℕ) × (j < shot_count two.coords) × (shot one i ≡ shot two j)
