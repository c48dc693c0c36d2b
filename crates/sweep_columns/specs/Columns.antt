-- The corners of a column of a line, between four words of two images.
use Rattle.std.specs.Prelude.{◌≡◌, true, cond, List, [], ◌∷◌, ℕ, ◌+◌, ◌*◌, ◌<◌, ◌≤◌}
use Rattle.ground.specs.Sums.{join}
use Rattle.lattice.specs.Pattern.{byte, corner}
use Rattle.lattice.specs.Listing.{Corner}
use Rattle.sweep_words.specs.Words.{pattern_of}
use Rattle.sweep_image.specs.Images.{word_at}
use Rattle.sweep_tally.specs.Found.{corner_of}

-- point b of column k between four words, if it is a corner
unfoldable pub corner_at : ℕ → ℕ → ℕ → ℕ → ℕ → ℕ → ℕ → ℕ → List Corner
corner_at x y k l₀ l₁ u₀ u₁ b =
    cond (corner (pattern_of l₀ l₁ u₀ u₁ b)) (corner_of x y (63 * k + b) (byte (pattern_of l₀ l₁ u₀ u₁ b)) ∷ []) []

-- the corners among the 63 points of a column
unfoldable pub column_corners : ℕ → ℕ → ℕ → ℕ → ℕ → ℕ → ℕ → List Corner
column_corners x y k l₀ l₁ u₀ u₁ = join 63 (corner_at x y k l₀ l₁ u₀ u₁)

-- the corners of column k of line y between two images
unfoldable pub column_at : ℕ → ℕ → List ℕ → List ℕ → ℕ → List Corner
column_at x y l u k = column_corners x y k (word_at l k y) (word_at l k (y + 1)) (word_at u k y) (word_at u k (y + 1))

-- the corners of column k between four words lie in the largest field
pub record Inside (k l₀ l₁ u₀ u₁ : ℕ) : Type 0 where
  pub top : (b : ℕ) → b < 63 → corner (pattern_of l₀ l₁ u₀ u₁ b) ≡ true → 63 * k + b ≤ 1024
