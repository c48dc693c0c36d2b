-- A list written into a lent slice.
use Rattle.std.specs.Prelude.{◌≡◌, List, ◌++◌, ℕ, ◌+◌, ◌≤◌, length, take, drop}

-- `after` is `before` with the list xs written from place `at` on, and r is the place after it
pub record Wrote (before after : List ℕ) (at r : ℕ) (xs : List ℕ) : Type 0 where
  pub next : r ≡ at + length xs
  pub room : r ≤ length before
  pub is : after ≡ take at before ++ (xs ++ drop r before)

-- the slice with the list xs in its first places; the others keep their values
abbrev pub in_front : List ℕ → List ℕ → List ℕ
in_front xs before = xs ++ drop (length xs) before
