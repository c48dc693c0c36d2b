-- The layers below and above a plane across x, of boxes by where they begin, and what lies between them.
use Rattle.std.specs.Prelude.{◌≡◌, cond, ◌&&◌, List, ℕ, ◌≤◌, ◌<◌, leb, eqb, length}
use Rattle.ground.specs.Numbers.{any_to}
use Rattle.lattice.specs.Boxes.{box_at}
use Rattle.sweep_image.specs.Images.{Layer, Shows, in_rect}
use Rattle.sweep_overlaps.specs.Overlaps.{FirstBoxes, rect_of, shade}

-- the boxes about the plane x: those before `from` end before it, those before `old` begin before it, those from `old` up to n on it
pub record About (field : ℕ) (boxes : List ℕ) (x from old n : ℕ) : Type 0 where
  pub known : FirstBoxes field boxes n
  pub from_old : from ≤ old
  pub old_n : old ≤ n
  pub passed : (i : ℕ) → i < from → (box_at boxes i).x_end < x
  pub before : (i : ℕ) → i < old → (box_at boxes i).x < x
  pub begun : (i : ℕ) → old ≤ i → i < n → (box_at boxes i).x ≡ x

-- the layer below the plane: of the boxes that begin before it, those that end on it or past it
unfoldable pub touching : List ℕ → ℕ → ℕ → Layer
touching boxes x old y z = any_to old (λ i. leb x (box_at boxes i).x_end && in_rect (rect_of (box_at boxes i)) y z)

-- the faces of those that end on it, before number q
unfoldable pub ending : List ℕ → ℕ → ℕ → Layer
ending boxes x q y z = any_to q (λ i. eqb (box_at boxes i).x_end x && in_rect (rect_of (box_at boxes i)) y z)

-- the layer below the plane, with these faces taken from the boxes that reach past the plane
abbrev pub released : List ℕ → ℕ → ℕ → ℕ → Layer
released boxes x old q y z = cond (ending boxes x q y z) (shade boxes x old y z) (touching boxes x old y z)

-- u' shows one layer where u shows another
pub record Becomes (field : ℕ) (f g : Layer) (u u' : List ℕ) : Type 0 where
  pub shows : Shows field f u → Shows field g u'
  pub same_size : length u' ≡ length u
