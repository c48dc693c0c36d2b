-- The words of a column in the rows of a rectangle, changed.
use mathlib.Core.Path.{◌≡◌, refl, sym, ◌∙◌, ap}
use mathlib.Core.Bool.{Bool, true, false, not, ◌&&◌, ◌||◌, and-true, and-false, or-false}
use mathlib.Core.List.{List}
use mathlib.Core.Logic.{◌⊎◌, inl, inr}
use Prim.Native.Nat.{ℕ, ◌+◌, ◌-◌, ◌*◌, ◌/◌, ◌^◌, ◌≤◌, ◌<◌}
use native.Mathlib.Omega.{arith}
use lib.Dec.{eqb, ltb, leb}
use borrow.Author.Tests.{ltb-true, ltb-false, leb-true, leb-false, eqb-true, eqb-false, lt-ltb, le-ltb, le-leb, lt-leb}
use Rattle.sweep_words.specs.Words.{bit_at}
use Rattle.sweep_words.proofs.BitLaws.{bit-and, bit-or, bit_not}
use Rattle.sweep_image.specs.Images.{word_at, Beside, after, in_rect, filling, rows}
use Rattle.sweep_image.specs.Changes.{Changed, masked, ColumnFilled}
use Rattle.sweep_image.specs.declared.Fill.{Fill}
use Rattle.sweep_image.specs.declared.Fill.TheVariants.{Set, Clear}
use Rattle.sweep_image.specs.declared.Rect.{Rect}
use Rattle.sweep_image.proofs.WordLaws.{not-word}

-- ---- the cells of a rectangle
module _ (r : Rect) (y z : ℕ) where
  in_rows : r.low < y → y ≤ r.high → in_rect r y z ≡ after r.from r.to z
  in_rows h k = ap (λ (t : Bool). (t && leb y r.high) && after r.from r.to z) (lt-ltb r.low y h)
      ∙ ap (λ (t : Bool). t && after r.from r.to z) (le-leb y r.high k)

  under-rows : y ≤ r.low → in_rect r y z ≡ false
  under-rows h = ap (λ (t : Bool). (t && leb y r.high) && after r.from r.to z) (le-ltb r.low y h)

  over-rows : r.high < y → in_rect r y z ≡ false
  over-rows h =
      ap (λ (t : Bool). (ltb r.low y && t) && after r.from r.to z) (lt-leb y r.high h)
      ∙ ap (λ (t : Bool). t && after r.from r.to z) (and-false (ltb r.low y))

  pub left-of : z ≤ r.from → in_rect r y z ≡ false
  left-of h =
      ap (λ (t : Bool). after r.low r.high y && (t && leb z r.to)) (le-ltb r.from z h) ∙ and-false (after r.low r.high y)

  pub right_of : r.to < z → in_rect r y z ≡ false
  right_of h =
      ap (λ (t : Bool). after r.low r.high y && (ltb r.from z && t)) (lt-leb z r.to h)
      ∙ ap (λ (t : Bool). after r.low r.high y && t) (and-false (ltb r.from z)) ∙ and-false (after r.low r.high y)

-- a cell elsewhere stays as it is
pub filling-kept : (fill : Fill) (s : Bool) {t : Bool} → t ≡ false → s ≡ filling fill s t
filling-kept Set s e = sym (ap (λ (t : Bool). s || t) e ∙ or-false s)
filling-kept Clear s e = sym (ap (λ (t : Bool). s && not t) e ∙ and-true s)

-- ---- the mask of a column
module _ (k a b v : ℕ) (fits : v < 2 ^ 64) (mask : (i : ℕ) → i < 64 → bit_at v i ≡ after a b (63 * k + i)) where
  pub mask-bits : (fill : Fill) (w i : ℕ) → i < 64 → bit_at (masked fill v w) i ≡ filling fill (bit_at w i) (after a b (63 * k + i))
  mask-bits Set w i h = bit-or w v i ∙ ap (λ (t : Bool). bit_at w i || t) (mask i h)
  mask-bits Clear w i h =
      bit-and w ((2 ^ 64 - 1) - v) i ∙ ap (λ (t : Bool). bit_at w i && t) (bit_not v i fits h ∙ ap not (mask i h))

-- ---- a column filled or emptied
-- the rows of the rectangle in column k
abbrev pub Here : Rect → ℕ → ℕ → ℕ → Type 0
Here r k j y = (j ≡ k) × (r.low < y) × (y ≤ r.high)

pub here-or-not : (r : Rect) (k j y : ℕ) → Here r k j y ⊎ (Here r k j y → ⊥)
here-or-not r k j y = go (eqb j k) (ltb r.low y) (leb y r.high) refl refl refl
  where
    go : (s t u : Bool) → eqb j k ≡ s → ltb r.low y ≡ t → leb y r.high ≡ u → Here r k j y ⊎ (Here r k j y → ⊥)
    go true true true e f g = inl (eqb-true j k e, ltb-true r.low y f, leb-true y r.high g)
    go false t u e f g = inr (λ h. eqb-false j k e h.0)
    go true false u e f g = inr (λ h. let l : y ≤ r.low = ltb-false r.low y f in let m : r.low < y = h.1 in omega arith)
    go true true false e f g = inr (λ h. let l : r.high < y = leb-false y r.high g in let m : y ≤ r.high = h.2 in omega arith)

module _ {g : ℕ → ℕ → ℕ} (r : Rect) (k : ℕ) {u u' : List ℕ} (small : r.high ≤ 1024)
    (c : Changed g (k * rows + (r.low + 1)) (k * rows + (r.high + 1)) u u') where
  -- the words elsewhere stay
  word_kept : (j y : ℕ) → y < rows → (Here r k j y → ⊥) → word_at u' j y ≡ word_at u j y
  word_kept j y h not-here =
      go (ltb (j * rows + y) (k * rows + (r.low + 1))) (ltb (j * rows + y) (k * rows + (r.high + 1))) refl refl
    where
      go : (s t : Bool) → ltb (j * rows + y) (k * rows + (r.low + 1)) ≡ s → ltb (j * rows + y) (k * rows + (r.high + 1)) ≡ t
          → word_at u' j y ≡ word_at u j y
      go true t e f = c.before (j * rows + y) (ltb-true (j * rows + y) (k * rows + (r.low + 1)) e)
      go false false e f = c.past (j * rows + y) (ltb-false (j * rows + y) (k * rows + (r.high + 1)) f)
      go false true e f =
          let l : k * rows + (r.low + 1) ≤ j * rows + y = ltb-false (j * rows + y) (k * rows + (r.low + 1)) e in
          let m : j * rows + y < k * rows + (r.high + 1) = ltb-true (j * rows + y) (k * rows + (r.high + 1)) f in
          let same : j ≡ k = omega arith in
          absurd (not-here (same, omega arith, omega arith))

  pub column-filled : (fill : Fill)
      → ((i w b : ℕ) → b < 64 → bit_at (g i w) b ≡ filling fill (bit_at w b) (after r.from r.to (63 * k + b)))
      → ColumnFilled fill r k u u'
  column-filled fill bits = record {
    same_size = c.same_size;
    at = λ y b h l. inside y b h l (ltb r.low y) (leb y r.high) refl refl;
    other = λ j y n h. word_kept j y h (λ e. n e.0);
  }
    where
      kept : (y b : ℕ) → y < rows → (Here r k k y → ⊥) → in_rect r y (63 * k + b) ≡ false
          → bit_at (word_at u' k y) b ≡ filling fill (bit_at (word_at u k y) b) (in_rect r y (63 * k + b))
      kept y b h n e =
          ap (λ (w : ℕ). bit_at w b) (word_kept k y h n) ∙ filling-kept fill (bit_at (word_at u k y) b) e

      inside : (y b : ℕ) → y < rows → b < 64 → (s t : Bool) → ltb r.low y ≡ s → leb y r.high ≡ t
          → bit_at (word_at u' k y) b ≡ filling fill (bit_at (word_at u k y) b) (in_rect r y (63 * k + b))
      inside y b h l false t e f =
          let m : y ≤ r.low = ltb-false r.low y e in
          kept y b h (λ q. let p : r.low < y = q.1 in omega arith) (under-rows r y (63 * k + b) m)
      inside y b h l true false e f =
          let m : r.high < y = leb-false y r.high f in
          kept y b h (λ q. let p : y ≤ r.high = q.2 in omega arith) (over-rows r y (63 * k + b) m)
      inside y b h l true true e f =
          let m : r.low < y = ltb-true r.low y e in
          let q : y ≤ r.high = leb-true y r.high f in
          ap (λ (w : ℕ). bit_at w b) (c.within (k * rows + y) (omega arith) (omega arith))
          ∙ bits (k * rows + y) (word_at u k y) b l
          ∙ ap (filling fill (bit_at (word_at u k y) b)) (sym (in_rows r y (63 * k + b) m q))

  -- all of them are words of the rectangle
  pub column-beside : r.from / 63 ≤ k → k ≤ r.to / 63 → Beside r u u'
  column-beside from to = record {
    kept = λ j y h e. word_kept j y h λ here. not-word r (r.from / 63) j y e (record {
      from = omega (arith, here.0, from);
      to = omega (arith, here.0, to);
      low = here.1;
      high = here.2;
    });
  }
