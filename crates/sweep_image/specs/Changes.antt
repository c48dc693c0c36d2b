-- Changes of a run of words, and of the words of one column of an image.
use Rattle.std.specs.Prelude.{◌≡◌, List, ℕ, ◌+◌, ◌-◌, ◌*◌, ◌^◌, ◌≤◌, ◌<◌, length, get_or}
use Rattle.std.specs.Int.Bits.{bit_and, bit_or}
use Rattle.sweep_words.specs.Words.{bit_at}
use Rattle.sweep_image.specs.Images.{word_at, in_rect, filling, rows}
use Rattle.sweep_image.specs.declared.Fill.{Fill}
use Rattle.sweep_image.specs.declared.Fill.TheVariants.{Set, Clear}
use Rattle.sweep_image.specs.declared.Rect.{Rect}

-- w' is w with each word from a on and before b changed by g, which may look at the word's place
pub record Changed (g : ℕ → ℕ → ℕ) (a b : ℕ) (w w' : List ℕ) : Type 0 where
  pub same_size : length w' ≡ length w
  pub within : (i : ℕ) → a ≤ i → i < b → get_or w' i 0 ≡ g i (get_or w i 0)
  pub before : (i : ℕ) → i < a → get_or w' i 0 ≡ get_or w i 0
  pub past : (i : ℕ) → b ≤ i → get_or w' i 0 ≡ get_or w i 0

-- a word with the bits of v set, or cleared
abbrev pub masked : Fill → ℕ → ℕ → ℕ
masked Set v w = bit_or w v
masked Clear v w = bit_and w ((2 ^ 64 - 1) - v)

-- u' is u with the cells of a rectangle in column k set, or cleared
pub record ColumnFilled (fill : Fill) (r : Rect) (k : ℕ) (u u' : List ℕ) : Type 0 where
  pub same_size : length u' ≡ length u
  pub at : (y b : ℕ) → y < rows → b < 64 → bit_at (word_at u' k y) b ≡ filling fill (bit_at (word_at u k y) b) (in_rect r y (63 * k + b))
  pub other : (j y : ℕ) → (j ≡ k → ⊥) → y < rows → word_at u' j y ≡ word_at u j y
