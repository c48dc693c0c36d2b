-- The columns in which two images may differ, named row by row, and what is lent to those who change the images.
use Rattle.std.specs.Prelude.{◌≡◌, Bool, true, false, cond, List, ℕ, ◌+◌, ◌≤◌, ◌<◌, eqb, length, get_or}
use Rattle.std.specs.Int.Bits.{bit_or}
use Rattle.sweep_words.specs.Words.{bit_at}
use Rattle.sweep_image.specs.Images.{columns, word_at, rows, image_size}

-- how many rows the names have: those of an image, and some more, so that eight can be looked at together
abbrev pub name_rows : ℕ
name_rows = 1040

-- bit k of entry y names column k in row y: where a column is not named, two images are the same; none is named past the field
pub record Tells (n : ℕ) (l u names : List ℕ) : Type 0 where
  pub size : length names ≡ name_rows
  pub same : (k y : ℕ) → k < columns n → y < rows → bit_at (get_or names y 0) k ≡ false → word_at l k y ≡ word_at u k y
  pub past : (y : ℕ) → n < y → get_or names y 0 ≡ 0
  pub few : (k y : ℕ) → bit_at (get_or names y 0) k ≡ true → k < columns n

-- two images of a field, large enough for it, with the columns named in which they may differ
pub record Lent (n : ℕ) (l u names : List ℕ) : Type 0 where
  pub small : n ≤ 1024
  pub lower : image_size n ≤ length l
  pub upper : image_size n ≤ length u
  pub tells : Tells n l u names

-- columns are named, but not yet for some words: `Tells` holds of the other words
pub record TellsBut (n : ℕ) (but : ℕ → ℕ → Bool) (l u names : List ℕ) : Type 0 where
  pub size : length names ≡ name_rows
  pub same : (k y : ℕ) → k < columns n → y < rows → but k y ≡ false → bit_at (get_or names y 0) k ≡ false → word_at l k y ≡ word_at u k y
  pub past : (y : ℕ) → n < y → get_or names y 0 ≡ 0
  pub few : (k y : ℕ) → bit_at (get_or names y 0) k ≡ true → k < columns n

-- two images with the columns named, but not yet for some words
pub record LentBut (n : ℕ) (but : ℕ → ℕ → Bool) (l u names : List ℕ) : Type 0 where
  pub small : n ≤ 1024
  pub lower : image_size n ≤ length l
  pub upper : image_size n ≤ length u
  pub tells : TellsBut n but l u names

-- the names of row y with one bit more where the two images differ in the word at + y
abbrev pub named_if : List ℕ → List ℕ → ℕ → ℕ → ℕ → ℕ → ℕ
named_if l u at bit y w = cond (eqb (get_or l (at + y) 0) (get_or u (at + y) 0)) w (bit_or w bit)
