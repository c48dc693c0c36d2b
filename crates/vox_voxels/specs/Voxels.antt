-- The sides and the voxels of a VOX file, by its bytes: docs/SCOPE.md, 'VOX file'. SIZE stands at 20, XYZI at 44.
use Rattle.std.specs.Prelude.{Bool, cond, ◌||◌, List, ℕ, zero, suc, ◌+◌, ◌*◌, max, leb, eqb, get_or}
use Rattle.job.specs.Checking.{outside}
use Rattle.vox_chunks.specs.Chunks.{number_at}

-- ---- SIZE
-- the side on an axis: 0 is x, 1 is y, 2 is z
abbrev pub side_on : List ℕ → ℕ → ℕ
side_on s axis = number_at s (32 + 4 * axis)

abbrev pub wrong_side : List ℕ → ℕ → Bool
wrong_side s axis = outside 1 256 (side_on s axis)

abbrev pub largest_side : List ℕ → ℕ
largest_side s = max (max (side_on s 0) (side_on s 1)) (side_on s 2)

-- ---- XYZI
-- where voxel n begins, from 0, and where the chunk after the first n voxels does
abbrev pub voxel_at : ℕ → ℕ
voxel_at n = 60 + 4 * n

-- a byte of voxel n: 0 is x, 1 is y, 2 is z, 3 is the colour
abbrev pub byte_of : List ℕ → ℕ → ℕ → ℕ
byte_of s n part = get_or s (voxel_at n + part) 0

-- voxel n is outside SIZE on an axis, which has a side of its own
abbrev pub beyond : List ℕ → ℕ → ℕ → Bool
beyond s n axis = leb (side_on s axis) (byte_of s n axis)

-- it is so on some axis, or has colour 0
unfoldable pub wrong_voxel : List ℕ → ℕ → Bool
wrong_voxel s n = beyond s n 0 || (beyond s n 1 || (beyond s n 2 || eqb (byte_of s n 3) 0))

-- the first such voxel of `left` voxels from voxel n on; the one after them if there is none
unfoldable pub first_wrong : List ℕ → ℕ → ℕ → ℕ
first_wrong s n zero = n
first_wrong s n (suc left) = cond (wrong_voxel s n) n (first_wrong s (suc n) left)
