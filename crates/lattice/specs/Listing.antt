-- The corner points of a field, their listing, and the sums over them: docs/SCOPE.md, 'Corner points'.
use Rattle.std.specs.Prelude.{◌≡◌, ◌⊎◌, true, cond, List, [], ◌∷◌, ◌++◌, ℕ, suc, ◌+◌, ◌*◌, ◌/◌, ◌%◌, ◌<◌, ◌≤◌, ℤ, pos, ◌+ℤ◌, length, get_or}
use Rattle.ground.specs.Sums.{total, join}
use Rattle.ground.specs.Numbers.{bit}
use Rattle.lattice.specs.Cells.{Cells}
use Rattle.lattice.specs.Pattern.{around, byte, of_byte, corner, Term}

-- a corner point with its pattern byte
pub record Corner : Type 0 where
  pub x : ℕ
  pub y : ℕ
  pub z : ℕ
  pub pattern : ℕ

-- the point (x, y, z), if it is a corner point
unfoldable pub here : Cells → ℕ → ℕ → ℕ → List Corner
here s x y z = cond (corner (around s x y z)) (record { x = x; y = y; z = z; pattern = byte (around s x y z) } ∷ []) []

-- the corner points of a field of side n, rising by x, then y, then z
unfoldable pub corners : ℕ → Cells → List Corner
corners n s = join (suc n) λ x. join (suc n) λ y. join (suc n) λ z. here s x y z

-- what is listed: a lattice point of the field whose pattern is that of a corner, with its pattern byte
pub record IsCorner (n : ℕ) (s : Cells) (v : Corner) : Type 0 where
  pub x_in : v.x ≤ n
  pub y_in : v.y ≤ n
  pub z_in : v.z ≤ n
  pub weighs : corner (around s v.x v.y v.z) ≡ true
  pub pattern_is : v.pattern ≡ byte (around s v.x v.y v.z)

-- rising by x, then y, then z: each corner precedes all that follow, so none stands twice
abbrev pub Precedes : Corner → Corner → Type 0
Precedes v u = (v.x < u.x) ⊎ ((v.x ≡ u.x) × ((v.y < u.y) ⊎ ((v.y ≡ u.y) × (v.z < u.z))))

abbrev pub All : (Corner → Type 0) → List Corner → Type 0
All P [] = Unit {0}
All P (v ∷ vs) = P v × All P vs

abbrev pub Rising : List Corner → Type 0
Rising [] = Unit {0}
Rising (v ∷ vs) = All (Precedes v) vs × Rising vs

-- how many lattice points have a weight that is not zero
unfoldable pub corner_count : ℕ → Cells → ℕ
corner_count n s = total (suc n) λ x. total (suc n) λ y. total (suc n) λ z. bit (corner (around s x y z))

-- a record of the listing: x, y, z as 16-bit numbers, least byte first, then the pattern
unfoldable pub corner_record : Corner → List ℕ
corner_record v = v.x % 256 ∷ v.x / 256 ∷ v.y % 256 ∷ v.y / 256 ∷ v.z % 256 ∷ v.z / 256 ∷ v.pattern ∷ []

unfoldable pub bytes : List Corner → List ℕ
bytes [] = []
bytes (v ∷ vs) = corner_record v ++ bytes vs

abbrev pub listing : ℕ → Cells → List ℕ
listing n s = bytes (corners n s)

-- the records of a listing, read back from its bytes; a remainder shorter than a record is none
unfoldable pub read_back : List ℕ → List Corner
read_back [] = []
read_back (x₀ ∷ []) = []
read_back (x₀ ∷ x₁ ∷ []) = []
read_back (x₀ ∷ x₁ ∷ y₀ ∷ []) = []
read_back (x₀ ∷ x₁ ∷ y₀ ∷ y₁ ∷ []) = []
read_back (x₀ ∷ x₁ ∷ y₀ ∷ y₁ ∷ z₀ ∷ []) = []
read_back (x₀ ∷ x₁ ∷ y₀ ∷ y₁ ∷ z₀ ∷ z₁ ∷ []) = []
read_back (x₀ ∷ x₁ ∷ y₀ ∷ y₁ ∷ z₀ ∷ z₁ ∷ p ∷ rest) =
    record { x = x₀ + x₁ * 256; y = y₀ + y₁ * 256; z = z₀ + z₁ * 256; pattern = p } ∷ read_back rest

-- a sum over corners
unfoldable pub over : (Corner → ℤ) → List Corner → ℤ
over f [] = pos 0
over f (v ∷ vs) = f v +ℤ over f vs

-- a corner sum uses each record's x, y, z and pattern, and nothing else
abbrev pub term_at : Term → Corner → ℤ
term_at term v = term v.x v.y v.z (of_byte v.pattern)

unfoldable pub corner_sum : Term → List Corner → ℤ
corner_sum term vs = over (term_at term) vs

-- the corner sum from the bytes of a listing alone
abbrev pub listed_sum : Term → List ℕ → ℤ
listed_sum term l = corner_sum term (read_back l)

-- two listings are the same if they are equally many bytes that agree at every place
pub record SameBytes (a b : List ℕ) : Type 0 where
  pub many : length a ≡ length b
  pub agree : (i : ℕ) → i < length a → get_or a i 0 ≡ get_or b i 0
