-- Rectangles of the layer above a plane across x, and the boxes that begin on the plane or before it: which cells they have, and which of them
-- meet a rectangle.
use Rattle.std.specs.Prelude.{◌≡◌, Bool, true, false, ◌&&◌, List, ℕ, ◌+◌, ◌*◌, ◌≤◌, ◌<◌, ◌-◌, leb, ltb, length}
use Rattle.ground.specs.Numbers.{any_to}
use Rattle.lattice.specs.Boxes.{Box, BoxIn, box_at}
use Rattle.sweep_image.specs.Images.{Layer, in_rect}
use Rattle.sweep_image.specs.declared.Rect.{Rect}

-- ---- the cells of boxes
-- the rectangle of a box on y and z
abbrev pub rect_of : Box → Rect
rect_of t = record { low = t.y; high = t.y_end; from = t.z; to = t.z_end }

-- the shade of box i: it ends past the plane x, and has the cell that ends at (y, z)
abbrev pub shade_of : List ℕ → ℕ → ℕ → Layer
shade_of boxes x i y z = ltb x (box_at boxes i).x_end && in_rect (rect_of (box_at boxes i)) y z

-- the shade of the boxes before number `to`
unfoldable pub shade : List ℕ → ℕ → ℕ → Layer
shade boxes x to y z = any_to to (λ i. shade_of boxes x i y z)

-- the shade of the boxes from number `from` on and before number `to`
unfoldable pub shade_from : List ℕ → ℕ → ℕ → ℕ → Layer
shade_from boxes x from to y z = any_to to (λ i. leb from i && shade_of boxes x i y z)

-- the list has the first n boxes, and they stay in the field
pub record FirstBoxes (field : ℕ) (boxes : List ℕ) (n : ℕ) : Type 0 where
  pub there : 6 * n ≤ length boxes
  pub inside : (i : ℕ) → i < n → BoxIn field (box_at boxes i)

-- ---- a box and a rectangle
-- four numbers as one, sixteen bits each
abbrev pub four_of : ℕ → ℕ → ℕ → ℕ → ℕ
four_of a b c d = ((d * 65536 + c) * 65536 + b) * 65536 + a

-- on y and z, a box begins before a rectangle ends, and ends after it begins
unfoldable pub overlaps_rect : Box → Rect → Bool
overlaps_rect t r = (ltb t.y r.high && ltb r.low t.y_end) && (ltb t.z r.to && ltb r.from t.z_end)

-- and it ends past the plane x
unfoldable pub meets_rect : Box → ℕ → Rect → Bool
meets_rect t x r = overlaps_rect t r && ltb x t.x_end

-- box number i does
abbrev pub meets_at : List ℕ → ℕ → Rect → ℕ → Bool
meets_at boxes x r i = meets_rect (box_at boxes i) x r

-- one past the number of the last box that does before number `to`, down to number `from`, or else `from`
pub record LastMeeting (boxes : List ℕ) (x from to : ℕ) (r : Rect) (n : ℕ) : Type 0 where
  pub onward : from ≤ n
  pub within : n ≤ to
  pub found : from < n → meets_rect (box_at boxes (n - 1)) x r ≡ true
  pub later : (i : ℕ) → n ≤ i → i < to → meets_rect (box_at boxes i) x r ≡ false
