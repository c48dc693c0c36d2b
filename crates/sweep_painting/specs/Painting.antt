-- Cells painted in the layer above a plane across x.
use Rattle.std.specs.Prelude.{◌≡◌, true, ◌||◌, List, ℕ, length}
use Rattle.sweep_image.specs.Images.{Layer, Shows}
use Rattle.sweep_overlaps.specs.Overlaps.{shade}

-- some cells are painted: where u shows all boxes before `to`, u' shows what u shows, and these cells
pub record Painted (field : ℕ) (boxes : List ℕ) (x to : ℕ) (cells : Layer) (u u' : List ℕ) : Type 0 where
  pub shows : (f : Layer) → Shows field f u
      → ((y z : ℕ) → shade boxes x to y z ≡ true → f y z ≡ true)
      → Shows field (λ y z. f y z || cells y z) u'
  pub same_size : length u' ≡ length u
