-- Between the images of the two layers about a plane, the corners of the words are those of the solid.
use mathlib.Core.Path.{◌≡◌, refl, sym, ◌∙◌, ap, ap₂, fun_ext}
use mathlib.Core.Bool.{Bool, true, false, cond, false≢true}
use mathlib.Core.List.{List, [], ◌∷◌}
use Prim.Native.Nat.{ℕ, suc, ◌+◌, ◌*◌, ◌<◌, ◌≤◌}
use native.Mathlib.Decide.{dec_le}
use native.Mathlib.Numerals.{add-one}
use native.Mathlib.Omega.{arith}
use Rattle.lattice.specs.Cells.{Cells, below, up, line_points}
use Rattle.lattice.specs.Pattern.{Pattern, around, byte, corner}
use Rattle.ground.specs.Sums.{join}
use Rattle.lattice.specs.Listing.{here}
use Rattle.lattice.proofs.Inside.{outside-no-corner}
use Rattle.lattice.proofs.SameSolid.{here-none}
use Rattle.sweep_words.specs.Words.{bit_at, word_of, pattern_of}
use Rattle.sweep_image.specs.Images.{columns, word_at}
use Rattle.sweep_tally.specs.Found.{corner_of}
use Rattle.sweep_columns.specs.Columns.{corner_at, column_corners, column_at, Inside}
use Rattle.sweep_columns.proofs.CornerLaws.{takes-points}
use Rattle.sweep_columns.proofs.Joins.{join-below, join-blocks, join-quiet}
use Rattle.sweep_columns.proofs.Takes.{Takes, takes-more, takes-join, takes-point}
use Rattle.sweep_points.specs.Points.{plane_at, Shown, Layers, line_at}

-- the pattern of point b of column k of line y, from two images
abbrev image_pattern : List ℕ → List ℕ → ℕ → ℕ → ℕ → Pattern
image_pattern l u y k b = pattern_of (word_at l k y) (word_at l k (y + 1)) (word_at u k y) (word_at u k (y + 1)) b

up-place : (c : Bool) (k b : ℕ) → 63 * k + up c b ≡ up c (63 * k + b)
up-place false k b = refl
up-place true k b = let e : 63 * k + suc b ≡ suc (63 * k + b) = omega arith in e

up_in : (c : Bool) (b : ℕ) → b < 63 → up c b < 64
up_in false b h = omega arith
up_in true b h = omega arith

module _ (n x : ℕ) {l u : List ℕ} {s : Cells} (a : Shown n x l u s) (y k : ℕ) (hy : y ≤ 1024) (hk : k < columns n) where
  cell-is : (b : ℕ) → b < 63 → (p r c : Bool)
      → bit_at (word_of (word_at l k y) (word_at l k (y + 1)) (word_at u k y) (word_at u k (y + 1)) p r) (up c b)
      ≡ below s (up p x) (up r y) (up c (63 * k + b))
  cell-is b h false false c = a.lower.at k y (up c b) hk (omega arith) (up_in c b h) ∙ ap (below s x y) (up-place c k b)
  cell-is b h false true c = a.lower.at k (y + 1) (up c b) hk (omega arith) (up_in c b h) ∙ ap₂ (below s x) (add-one y) (up-place c k b)
  cell-is b h true false c = a.upper.at k y (up c b) hk (omega arith) (up_in c b h) ∙ ap (below s (suc x) y) (up-place c k b)
  cell-is b h true true c =
      a.upper.at k (y + 1) (up c b) hk (omega arith) (up_in c b h) ∙ ap₂ (below s (suc x)) (add-one y) (up-place c k b)

  pattern_is : (b : ℕ) → b < 63 → image_pattern l u y k b ≡ around s x y (63 * k + b)
  pattern_is b h = fun_ext λ p. fun_ext λ r. fun_ext λ c. cell-is b h p r c

  -- a corner lies in the field
  pub inside : n ≤ 1024 → Inside k (word_at l k y) (word_at l k (y + 1)) (word_at u k y) (word_at u k (y + 1))
  inside hn = record { top = λ b h e. go b h e (dec_le (63 * k + b) n) }
    where
      go : (b : ℕ) → b < 63 → corner (image_pattern l u y k b) ≡ true → Dec (63 * k + b ≤ n) → 63 * k + b ≤ 1024
      go b h e (yes p) = omega arith
      go b h e (no p) =
          absurd (false≢true
          (sym (outside-no-corner n s a.within x y (63 * k + b) (λ o. p o.2)) ∙ sym (ap corner (pattern_is b h)) ∙ e))

  column-is : column_at x y l u k ≡ join 63 (λ b. here s x y (63 * k + b))
  unfolding column_at column_corners corner_at here
  column-is = join-below 63 (λ b h. ap (λ (p : Pattern). cond (corner p) (corner_of x y (63 * k + b) (byte p) ∷ []) []) (pattern_is b h))

module _ (n x : ℕ) {l u : List ℕ} {s : Cells} (a : Shown n x l u s) where
  line-is : (y : ℕ) → y ≤ 1024 → line_at n x l u y ≡ join (suc n) (λ z. here s x y z)
  unfolding line_at
  line-is y hy =
      join-below (columns n) (λ k h. column-is n x a y k hy h) ∙ join-blocks (columns n) (λ z. here s x y z)
      ∙ join-quiet (suc n) (63 * columns n) (λ z. here s x y z) (omega arith)
      (λ z h k. here-none s x y z (outside-no-corner n s a.within x y z (λ o. omega arith)))

  pub plane-is : n ≤ 1024 → join (n + 1) (line_at n x l u) ≡ plane_at n x s
  unfolding plane_at
  plane-is hn = ap (λ k. join k (line_at n x l u)) (add-one n) ∙ join-below (suc n) (λ y h. line-is y (omega arith))

-- ---- room
module _ (n x : ℕ) (hn : n ≤ 1024) (hx : x ≤ 1024) {l u : List ℕ} (a : Layers n x l u) where
  takes-line : (y : ℕ) → y ≤ n → Takes (line_points 1024) (line_at n x l u y)
  unfolding here
  takes-line y hy = rw (line-is n x a.shown y (omega arith))
      (takes-more (omega arith) (takes-join 1 (suc n) (λ z. here a.solid x y z)
      (λ z h. takes-point (corner (around a.solid x y z)) x y z (byte (around a.solid x y z)) hx (omega arith) (λ e. omega arith))))

  pub takes-lines : (k : ℕ) → k ≤ n + 1 → Takes (k * line_points 1024) (join k (line_at n x l u))
  takes-lines k h = takes-join (line_points 1024) k (line_at n x l u) (λ y m. takes-line y (omega arith))

pub takes-columns : (n x : ℕ) → n ≤ 1024 → x ≤ 1024 → {l u : List ℕ} → Layers n x l u → (y : ℕ) → y ≤ n → (k : ℕ) → k ≤ columns n
    → Takes (k * 63) (join k (column_at x y l u))
unfolding column_at column_corners
takes-columns n x hn hx {l} {u} a y hy k hk = takes-join 63 k (column_at x y l u) λ i m.
    takes-points x y i (word_at l i y) (word_at l i (y + 1)) (word_at u i y) (word_at u i (y + 1)) hx (omega arith)
    (inside n x a.shown y i (omega arith) (omega arith) hn) 63 (omega arith)
