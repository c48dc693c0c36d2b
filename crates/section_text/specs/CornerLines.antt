-- What the program `corners_at` prints: a line a corner, `x y z pattern` in decimal. docs/SCOPE.md, 'Corners at one x'. A space is 32, the
-- end of a line 10; a 16-bit number has at most five digits, a pattern byte three.
use Rattle.std.specs.Prelude.{List, [], ◌∷◌, ◌++◌, ℕ, ◌+◌, ◌*◌, ◌/◌, length, take, drop}
use Rattle.lattice.specs.Listing.{Corner, read_back}
use Rattle.text_parts.specs.Decimal.{digits}

-- ---- lines
-- a number of at most n digits, and the byte after it
unfoldable pub digits_then : ℕ → ℕ → ℕ → List ℕ
digits_then n a end = digits n a ++ (end ∷ [])

unfoldable pub corner_line : ℕ → ℕ → ℕ → ℕ → List ℕ
corner_line x y z pattern = digits_then 5 x 32 ++ (digits_then 5 y 32 ++ (digits_then 5 z 32 ++ digits_then 3 pattern 10))

-- a line a corner
unfoldable pub corner_lines : List Corner → List ℕ
corner_lines [] = []
corner_lines (v ∷ vs) = corner_line v.x v.y v.z v.pattern ++ corner_lines vs

-- ---- blocks of 2,048 lines
-- so many that each record of a listing is in one
abbrev pub block_count : List ℕ → ℕ
block_count l = length l / 14336 + 1

-- the lines of a block's corners
unfoldable pub block_lines : List ℕ → ℕ → List ℕ
block_lines l number = corner_lines (take 2048 (drop (2048 * number) (read_back l)))
