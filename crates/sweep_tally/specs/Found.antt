-- What a sweep has found: the sums of the corners met so far, and the lent buffer with as many of their records as it has room for.
use Rattle.std.specs.Prelude.{cond, List, [], ◌∷◌, ◌++◌, ℕ, ◌+◌, ◌*◌, ◌/◌, ltb, length, take, drop}
use Rattle.lattice.specs.Listing.{Corner, corner_record}
use Rattle.lattice_sums.specs.CornerSums.{added}
use Rattle.lattice_sums.specs.declared.sums.CornerSums.{CornerSums}

-- a corner by its coordinates and its pattern
abbrev pub corner_of : ℕ → ℕ → ℕ → ℕ → Corner
corner_of x y z p = record { x = x; y = y; z = z; pattern = p }

-- the buffer with the seven bytes of a record at a place
abbrev pub with_record : List ℕ → ℕ → List ℕ → List ℕ
with_record b at r = take at b ++ (r ++ drop (at + 7) b)

-- the buffer with record n, where there is room for it
unfoldable pub stored_record : List ℕ → ℕ → List ℕ → List ℕ
stored_record b n r = cond (ltb n (length b / 7)) (with_record b (7 * n) r) b

pub record Found : Type 0 where
  pub sums : CornerSums
  pub bytes : List ℕ

abbrev pub state : CornerSums → List ℕ → Found
state t b = record { sums = t; bytes = b }

-- one corner more
unfoldable pub meet : Found → Corner → Found
meet f v = state (added f.sums v) (stored_record f.bytes f.sums.corners (corner_record v))

-- corner after corner
unfoldable pub found : Found → List Corner → Found
found f [] = f
found f (v ∷ vs) = found (meet f v) vs
