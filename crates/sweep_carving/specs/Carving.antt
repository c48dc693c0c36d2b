-- A rectangle of the layer above a plane across x, shown anew.
use Rattle.std.specs.Prelude.{◌≡◌, true, false, cond, ◌&&◌, ◌||◌, List, ℕ, length}
use Rattle.sweep_image.specs.Images.{Layer, Shows, in_rect}
use Rattle.sweep_image.specs.declared.Rect.{Rect}
use Rattle.sweep_overlaps.specs.Overlaps.{shade}

-- a layer with the cells of a rectangle taken from another
abbrev pub replaced : Rect → Layer → Layer → Layer
replaced r g f y z = cond (in_rect r y z) (g y z) (f y z)

-- a layer with the cells of a rectangle added that another has
abbrev pub joined : Rect → Layer → Layer → Layer
joined r g f y z = f y z || (in_rect r y z && g y z)

-- a rectangle is shown anew: where u shows all boxes before `to`, and none before `from` has a cell of the rectangle, u' shows what u shows,
-- and in the rectangle the boxes before `to`
pub record Carved (field : ℕ) (boxes : List ℕ) (x from to : ℕ) (r : Rect) (u u' : List ℕ) : Type 0 where
  pub shows : (f : Layer) → Shows field f u
      → ((y z : ℕ) → shade boxes x to y z ≡ true → f y z ≡ true)
      → ((y z : ℕ) → in_rect r y z ≡ true → shade boxes x from y z ≡ false)
      → Shows field (replaced r (shade boxes x to) f) u'
  pub same_size : length u' ≡ length u
