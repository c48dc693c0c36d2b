-- Words of 64 cells of a row along z. Bit b of the word of column k is the cell at place 63k + b, so a word holds both cells at each of the
-- 63 points from its first place on.
use Rattle.std.specs.Prelude.{◌≡◌, Bool, true, false, not, ◌&&◌, ◌||◌, ℕ, suc, ◌+◌, ◌*◌, ◌/◌, ◌%◌, ◌^◌, ◌<◌, eqb}
use Rattle.std.specs.Bool.{xor}
use Rattle.ground.specs.Numbers.{bit}
use Rattle.lattice.specs.Cells.{up}
use Rattle.lattice.specs.Pattern.{Pattern}

-- bit b of a word
unfoldable pub bit_at : ℕ → ℕ → Bool
bit_at w b = eqb (w / 2 ^ b % 2) 1

-- the word of a layer, lower or upper, and one of its rows, y or y + 1
abbrev pub word_of : ℕ → ℕ → ℕ → ℕ → Bool → Bool → ℕ
word_of l₀ l₁ u₀ u₁ false false = l₀
word_of l₀ l₁ u₀ u₁ false true = l₁
word_of l₀ l₁ u₀ u₁ true false = u₀
word_of l₀ l₁ u₀ u₁ true true = u₁

-- the pattern of the point at place b, about which the four words lie
abbrev pub pattern_of : ℕ → ℕ → ℕ → ℕ → ℕ → Pattern
pattern_of l₀ l₁ u₀ u₁ b a r c = bit_at (word_of l₀ l₁ u₀ u₁ a r) (up c b)

-- the two cells at place b of a word, the lower one first
abbrev pub two_at : ℕ → ℕ → ℕ
two_at w b = bit (bit_at w b) + 2 * bit (bit_at w (suc b))

-- r is the lowest set bit of m
pub record Lowest (m r : ℕ) : Type 0 where
  pub within : r < 64
  pub set : bit_at m r ≡ true
  pub under : (b : ℕ) → b < r → bit_at m b ≡ false

-- r has the bits of m but the lowest
pub record WithoutLowest (m r : ℕ) : Type 0 where
  pub less : r < m
  pub bits : (k : ℕ) → Lowest m k → (b : ℕ) → bit_at r b ≡ (bit_at m b && not (eqb b k))

-- of two pairs of words, one pair differs in bit b
abbrev pub pairs_differ : ℕ → ℕ → ℕ → ℕ → ℕ → Bool
pairs_differ v w v' w' b = xor (bit_at v b) (bit_at w b) || xor (bit_at v' b) (bit_at w' b)

-- the two cells at place b of a word differ
abbrev pub turns_at : ℕ → ℕ → Bool
turns_at w b = xor (bit_at w b) (bit_at w (suc b))
