-- Bit images of a layer of cells about a plane. A cell is numbered by the points where it ends on y and z; word k * rows + y of an image has
-- the cells of row y from place 63k to place 63k + 63.
use Rattle.std.specs.Prelude.{◌≡◌, Bool, false, not, ◌&&◌, ◌||◌, List, ℕ, ◌+◌, ◌*◌, ◌/◌, ◌≤◌, ◌<◌, leb, ltb, length, get_or}
use Rattle.sweep_words.specs.Words.{bit_at}
use Rattle.sweep_image.specs.declared.Fill.{Fill}
use Rattle.sweep_image.specs.declared.Fill.TheVariants.{Set, Clear}
use Rattle.sweep_image.specs.declared.Rect.{Rect}

-- a layer: whether the cell that ends at (y, z) is covered
abbrev pub Layer : Type 0
Layer = ℕ → ℕ → Bool

-- how many columns the image of a field of side n has
abbrev pub columns : ℕ → ℕ
columns n = n / 63 + 1

-- how many rows a column has: one for each point of the largest field, and one more
abbrev pub rows : ℕ
rows = 1026

-- how many words the image of a field of side n has
abbrev pub image_size : ℕ → ℕ
image_size n = columns n * rows

-- the word of row y in column k
abbrev pub word_at : List ℕ → ℕ → ℕ → ℕ
word_at img k y = get_or img (k * rows + y) 0

-- an image shows a layer of a field of side n
pub record Shows (n : ℕ) (f : Layer) (img : List ℕ) : Type 0 where
  pub size : image_size n ≤ length img
  pub at : (k y b : ℕ) → k < columns n → y < rows → b < 64 → bit_at (word_at img k y) b ≡ f y (63 * k + b)

-- the place p lies after a and up to b: the unit interval that ends there lies between a and b
abbrev pub after : ℕ → ℕ → ℕ → Bool
after a b p = ltb a p && leb p b

-- the cells of a rectangle, as a layer
abbrev pub in_rect : Rect → Layer
in_rect r y z = after r.low r.high y && after r.from r.to z

-- a rectangle has cells, and stays in a field of side n
pub record RectIn (n : ℕ) (r : Rect) : Type 0 where
  pub y_order : r.low < r.high
  pub y_in : r.high ≤ n
  pub z_order : r.from < r.to
  pub z_in : r.to ≤ n

-- the word of row y in column k lies in the rows of a rectangle, and in one of its columns from j on
abbrev pub words_from : Rect → ℕ → ℕ → ℕ → Bool
words_from r j k y = (leb j k && leb k (r.to / 63)) && after r.low r.high y

-- it is one of the words that have the cells of a rectangle
abbrev pub in_words : Rect → ℕ → ℕ → Bool
in_words r k y = words_from r (r.from / 63) k y

-- u' is u but for the words of a rectangle
pub record Beside (r : Rect) (u u' : List ℕ) : Type 0 where
  pub kept : (k y : ℕ) → y < rows → in_words r k y ≡ false → word_at u' k y ≡ word_at u k y

-- u' shows what u shows, changed
pub record Turned (n : ℕ) (change : Layer → Layer) (u u' : List ℕ) : Type 0 where
  pub shows : (f : Layer) → Shows n f u → Shows n (change f) u'
  pub same_size : length u' ≡ length u

-- whether a cell is covered once a rectangle is filled, or emptied: s says whether it was, t whether it lies in the rectangle
abbrev pub filling : Fill → Bool → Bool → Bool
filling Set s t = s || t
filling Clear s t = s && not t

-- a layer with a rectangle filled or emptied
abbrev pub filled : Fill → Rect → Layer → Layer
filled fill r f y z = filling fill (f y z) (in_rect r y z)

-- a layer with the cells of a rectangle
abbrev pub painted : Rect → Layer → Layer
painted r f y z = f y z || in_rect r y z

-- a layer without the cells of a rectangle
abbrev pub wiped : Rect → Layer → Layer
wiped r f y z = f y z && not (in_rect r y z)
