-- What the corner points of a solid tell: docs/SCOPE.md, 'Corner points', for every set of cells within a field.
-- Each statement cites the law that proves it; the lists of a job come in above, in the crates that cover cells by shots.
use mathlib.Core.Path.{◌≡◌, ◌∙◌, ap}
use mathlib.Core.Logic.{◌↔◌}
use mathlib.Core.Bool.{false}
use mathlib.Core.List.{Memᴰ}
use Prim.Native.Nat.{ℕ, ◌*◌, ◌≤◌}
use lib.ListN.{length}
use Rattle.lattice.specs.Cells.{Cells, Within}
use Rattle.lattice.specs.Pattern.{around, corner}
use Rattle.lattice.specs.Figures.{Figure, cell_count, term}
use Rattle.lattice.specs.Listing.{Corner, corners, corner_count, IsCorner, Rising, listing, read_back, corner_sum, listed_sum, SameBytes}
use Rattle.lattice.proofs.Inside.{outside-no-corner}
use Rattle.lattice.proofs.PointSums.{figure-points}
use Rattle.lattice.proofs.ListingLaws.{read_back-bytes, length-corners, length-listing, corners-points, figure-weighted}
use Rattle.lattice.proofs.Order.{corners-rising, corners-exactly}
use Rattle.lattice.proofs.SameSolid.{listing-same}

module _ (n : ℕ) (s : Cells) (within : Within n s) where
  -- over corner points only, volume is the sum of x·y·z·w, area of y·z·ax + x·z·ay + x·y·az, edge length of x·ex + y·ey + z·ez, inner
  -- length of x·ix + y·iy + z·iz
  pub corner-sums : (f : Figure) → corner_sum (term f) (corners n s) ≡ cell_count f n s
  corner-sums f = corners-points n s (term f) (figure-weighted f) ∙ figure-points n s within f

  -- a listing read back from its bytes gives the corners
  pub reads_back : read_back (listing n s) ≡ corners n s
  reads_back = read_back-bytes (corners n s)

  -- so the corner sums from the bytes alone are the same figures
  pub listed-sums : (f : Figure) → listed_sum (term f) (listing n s) ≡ cell_count f n s
  listed-sums f = ap (corner_sum (term f)) reads_back ∙ corner-sums f

  -- the corner count is the number of lattice points with a weight that is not zero
  pub count-is : length (corners n s) ≡ corner_count n s
  count-is = length-corners n s

  -- no lattice point outside the field has such a weight
  pub outside_weighs_nothing : (x y z : ℕ) → ((x ≤ n) × (y ≤ n) × (z ≤ n) → ⊥) → corner (around s x y z) ≡ false
  outside_weighs_nothing = outside-no-corner n s within

  -- the listing has 7 bytes for each corner
  pub listing-length : length (listing n s) ≡ 7 * corner_count n s
  listing-length = length-listing n s

  -- every corner point is listed with its pattern, and nothing else is
  pub listed-exactly : (v : Corner) → Memᴰ v (read_back (listing n s)) ↔ IsCorner n s v
  listed-exactly v = rw reads_back (corners-exactly n s v)

  -- the order rises by x, then y, then z, so each corner stands once
  pub listed-rising : Rising (read_back (listing n s))
  listed-rising = rw reads_back (corners-rising s n)

-- two listings are equally many bytes that agree at every place exactly if the two solids have the same cells, also where their fields differ
pub same-listing : (n m : ℕ) (s t : Cells) → Within n s → Within m t → SameBytes (listing n s) (listing m t) ↔ ((i j k : ℕ) → s i j k ≡ t i j k)
same-listing = listing-same
