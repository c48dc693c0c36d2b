-- Boxes in their order along x: which begin past a plane, which end before it, and how many end on each plane.
use Rattle.std.specs.Prelude.{◌≡◌, ◌≢◌, Bool, List, ℕ, ◌*◌, ◌≤◌, ◌<◌, leb, ltb, length, get_or}
use Rattle.lattice.specs.Boxes.{box_at, BoxesIn}

-- a field, and the boxes of a list in it
pub record Given (field : ℕ) (boxes : List ℕ) (count : ℕ) : Type 0 where
  pub field_least : 1 ≤ field
  pub field_most : field ≤ 1024
  pub few : count ≤ 4096
  pub there : 6 * count ≤ length boxes
  pub boxes_in : BoxesIn field boxes count

-- box i begins past the plane x
abbrev pub begins_past : List ℕ → ℕ → ℕ → Bool
begins_past boxes x i = ltb x (box_at boxes i).x

-- box i ends on the plane x or past it
abbrev pub lasts_to : List ℕ → ℕ → ℕ → Bool
lasts_to boxes x i = leb x (box_at boxes i).x_end

-- how many entries a row has: one for each plane of the largest field, and one more
abbrev pub row_size : ℕ
row_size = 1026

-- entry p of a row counts the first n boxes that end at p: it is 0 only where none does
pub record EndsRow (boxes : List ℕ) (n : ℕ) (row : List ℕ) : Type 0 where
  pub size : length row ≡ row_size
  pub few : (p : ℕ) → get_or row p 0 ≤ n
  pub no_end : (p : ℕ) → get_or row p 0 ≡ 0 → (i : ℕ) → i < n → (box_at boxes i).x_end ≢ p
