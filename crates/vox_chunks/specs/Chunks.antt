-- The bytes of a VOX file: 32-bit numbers, names of four bytes, chunks. docs/SCOPE.md, 'VOX file'.
use Rattle.std.specs.Prelude.{Bool, not, ◌&&◌, ◌||◌, List, ℕ, ◌+◌, ◌*◌, leb, ltb, eqb, length, get_or, take, drop}
use Rattle.text_same.specs.Same.{same}

-- the 32-bit number at a place, least byte first
unfoldable pub number_at : List ℕ → ℕ → ℕ
number_at s at = get_or s at 0 + 256 * get_or s (at + 1) 0 + 65536 * get_or s (at + 2) 0 + 16777216 * get_or s (at + 3) 0

-- these four bytes stand at a place
unfoldable pub stands : List ℕ → ℕ → List ℕ → Bool
stands s at name = same (take 4 (drop at s)) name

-- a chunk begins with 12 bytes: its name, the size of its content, the size of its children
abbrev pub content_at : List ℕ → ℕ → ℕ
content_at s at = number_at s (at + 4)

abbrev pub children_at : List ℕ → ℕ → ℕ
children_at s at = number_at s (at + 8)

-- the place after a chunk with its content and its children
abbrev pub after_chunk : List ℕ → ℕ → ℕ
after_chunk s at = at + 12 + content_at s at + children_at s at

-- ---- 13
-- where a chunk is required: no byte is left, or a full name stands there and it is another
abbrev pub missing : List ℕ → ℕ → List ℕ → Bool
missing s at name = leb (length s) at || (leb (at + 4) (length s) && not (stands s at name))

-- ---- 14
-- the file ends before the chunk does: within its header, or because a size overruns
abbrev pub overruns : List ℕ → ℕ → Bool
overruns s at = ltb (length s) (after_chunk s at)

-- also where its content has another size than this, or it has children
abbrev pub mismatched : List ℕ → ℕ → ℕ → Bool
mismatched s at content = overruns s at || (not (eqb (children_at s at) 0) || not (eqb (content_at s at) content))
