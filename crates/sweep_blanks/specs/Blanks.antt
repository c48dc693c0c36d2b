-- Rows that name no column.
use Rattle.std.specs.Prelude.{◌≡◌, List, ℕ, ◌+◌, ◌<◌, ◌≤◌, get_or}

-- from a row up to another no row names a column, nor does the row above it
pub record Blank (names : List ℕ) (from end : ℕ) : Type 0 where
  pub at : (y : ℕ) → from ≤ y → y < end → (get_or names y 0 ≡ 0) × (get_or names (y + 1) 0 ≡ 0)
