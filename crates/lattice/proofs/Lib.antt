pub mod Agreement  -- the theorems: corner sums are the totals, the listing tells the solid
pub mod Bounds  -- every partial corner sum fits 64 bits
pub mod SameSolid  -- the same listing, the same cells
pub mod Order  -- a listing rises by x, y, z
pub mod ShotLaws  -- shots in the field cover cells within it
pub mod BoxLaws  -- boxes, and the cell that ends at a point
pub mod ListingLaws  -- bytes, length and sums of a listing
pub mod LengthLaws  -- outer and inner unit edges together
pub mod PointSums  -- totals as sums over lattice points
pub mod PatternLaws  -- patterns, weights and which patterns are corners
pub mod Inside  -- nothing past the sides of the field
pub mod ByParts  -- summation by parts on each axis
pub mod TermBounds  -- how large the terms of a point are
pub mod Cases  -- a test of all patterns or figures, computed once
