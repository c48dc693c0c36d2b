-- Shots and the cells that they cover: docs/SCOPE.md, 'The job' and 'Cells and totals'.
use Rattle.std.specs.Prelude.{Bool, false, ◌&&◌, ◌||◌, List, [], ◌∷◌, ℕ, ◌+◌, ◌≤◌, leb, ltb}
use Rattle.lattice.specs.Cells.{Cells}

-- a shot is a cube by its lower corner, with an edge of its own
pub record Shot : Type 0 where
  pub x : ℕ
  pub y : ℕ
  pub z : ℕ
  pub edge : ℕ

-- a ≤ i < a + e
abbrev pub spans : ℕ → ℕ → ℕ → Bool
spans e a i = leb a i && ltb i (a + e)

-- a shot covers a cell if it spans it on x, y and z
abbrev pub covers : Shot → Cells
covers t i j k = spans t.edge t.x i && (spans t.edge t.y j && spans t.edge t.z k)

unfoldable pub any : (Shot → Bool) → List Shot → Bool
any f [] = false
any f (t ∷ ts) = f t || any f ts

-- a cell is covered, or cured, if some shot covers it
abbrev pub cells : List Shot → Cells
cells ts i j k = any (λ t. covers t i j k) ts

-- each coordinate plus the edge is at most the side of the field
pub record InField (n : ℕ) (t : Shot) : Type 0 where
  pub x_in : t.x + t.edge ≤ n
  pub y_in : t.y + t.edge ≤ n
  pub z_in : t.z + t.edge ≤ n

abbrev pub AllInField : ℕ → List Shot → Type 0
AllInField n [] = Unit {0}
AllInField n (t ∷ ts) = InField n t × AllInField n ts
