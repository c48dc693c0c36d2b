-- A table of quotients: how the intervals that a span meets are found.
use Rattle.std.specs.Prelude.{◌≡◌, ℕ, ◌/◌, ◌<◌, ◌≤◌, List, length, slice_index}

-- a list that begins with the quotients of 0, 1, .. n - 1 by s, and then has anything
pub record Quotients (s n : ℕ) (table : List ℕ) : Type 0 where
  pub long : n ≤ length table
  pub at : (a : ℕ) → a < n → slice_index table a ≡ a / s
