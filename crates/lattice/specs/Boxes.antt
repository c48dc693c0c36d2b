-- Boxes of cells, by their two ends on each axis, six numbers a box; and the cells that a number of them cover.
use Rattle.std.specs.Prelude.{Bool, ◌&&◌, List, ℕ, ◌+◌, ◌*◌, ◌≤◌, ◌<◌, leb, ltb, get_or}
use Rattle.ground.specs.Numbers.{any_to}
use Rattle.lattice.specs.Cells.{Cells}
use Rattle.lattice.specs.Shots.{Shot}

-- the cells from x up to x_end, from y up to y_end, from z up to z_end
pub record Box : Type 0 where
  pub x : ℕ
  pub x_end : ℕ
  pub y : ℕ
  pub y_end : ℕ
  pub z : ℕ
  pub z_end : ℕ

-- a ≤ i < b
abbrev pub lies : ℕ → ℕ → ℕ → Bool
lies a b i = leb a i && ltb i b

abbrev pub box_covers : Box → Cells
box_covers t i j k = lies t.x t.x_end i && (lies t.y t.y_end j && lies t.z t.z_end k)

-- box number i of a list of numbers
abbrev pub box_at : List ℕ → ℕ → Box
box_at b i =
    record {
      x = get_or b (6 * i) 0;
      x_end = get_or b (6 * i + 1) 0;
      y = get_or b (6 * i + 2) 0;
      y_end = get_or b (6 * i + 3) 0;
      z = get_or b (6 * i + 4) 0;
      z_end = get_or b (6 * i + 5) 0;
    }

-- the cells that the first n boxes cover
abbrev pub box_cells : List ℕ → ℕ → Cells
box_cells b n i j k = any_to n (λ q. box_covers (box_at b q) i j k)

-- the box of a shot
abbrev pub box_of : Shot → Box
box_of t = record { x = t.x; x_end = t.x + t.edge; y = t.y; y_end = t.y + t.edge; z = t.z; z_end = t.z + t.edge }

-- a box has cells, and stays in a field of side n
pub record BoxIn (n : ℕ) (t : Box) : Type 0 where
  pub x_order : t.x < t.x_end
  pub x_in : t.x_end ≤ n
  pub y_order : t.y < t.y_end
  pub y_in : t.y_end ≤ n
  pub z_order : t.z < t.z_end
  pub z_in : t.z_end ≤ n

-- the first n boxes of a list stay in a field, and none begins on x before one that stands before it
pub record BoxesIn (field : ℕ) (b : List ℕ) (n : ℕ) : Type 0 where
  pub inside : (q : ℕ) → q < n → BoxIn field (box_at b q)
  pub rising : (p q : ℕ) → p ≤ q → q < n → (box_at b p).x ≤ (box_at b q).x
