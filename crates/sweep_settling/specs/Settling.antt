-- The image of the layer below a plane brought to that of the layer above it.
use Rattle.std.specs.Prelude.{◌≡◌, List, ℕ, length, get_or}
use Rattle.sweep_image.specs.Images.{Layer, Shows}
use Rattle.sweep_names.specs.Names.{Tells}

-- l' shows what u shows, and no column is named
pub record Settled (n : ℕ) (u l l' names' : List ℕ) : Type 0 where
  pub shows : (f : Layer) → Shows n f u → Shows n f l'
  pub same_size : length l' ≡ length l
  pub blank : (y : ℕ) → get_or names' y 0 ≡ 0
  pub tells : Tells n l' u names'
