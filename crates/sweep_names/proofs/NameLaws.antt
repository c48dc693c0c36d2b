-- A column named in the rows of a rectangle where two images differ; what names tell of the words beside a rectangle; and images that stay
-- lent.
use mathlib.Core.Path.{◌≡◌, refl, sym, ◌∙◌, ap}
use mathlib.Core.Bool.{Bool, true, false, cond, ◌||◌, or-false, or-true, false≢true}
use mathlib.Core.List.{List}
use mathlib.Core.Logic.{⊎_elim}
use Prim.Native.Nat.{ℕ, ◌+◌, ◌*◌, ◌^◌, ◌≤◌, ◌<◌}
use native.Mathlib.Omega.{arith}
use lib.Bits.{bit_or}
use lib.Dec.{eqb, ltb, leb}
use lib.ListN.{length, get_or, replicate, length-replicate}
use borrow.Author.Tests.{ltb-true, ltb-false, leb-true, leb-false, eqb-true, eqb-false, eq-eqb, ne_eqb}
use Rattle.sweep_words.specs.Words.{bit_at}
use Rattle.sweep_words.proofs.BitLaws.{bit-or, bit-single, bit-zero}
use Rattle.sweep_image.specs.Images.{columns, word_at, Beside, words_from, in_words, RectIn, rows}
use Rattle.sweep_image.specs.Changes.{Changed}
use Rattle.sweep_image.specs.declared.Rect.{Rect}
use Rattle.sweep_image.proofs.ColumnLaws.{Here, here-or-not}
use Rattle.sweep_image.proofs.ImageLaws.{zeros-at}
use Rattle.sweep_image.proofs.WordLaws.{Word, word-not, not-word}
use Rattle.sweep_names.specs.Names.{name_rows, Tells, TellsBut, Lent, LentBut, named_if}

-- ---- a column named
module _ {n : ℕ} (r : Rect) (k : ℕ) (l u : List ℕ) (v : ℕ) (single : v ≡ 2 ^ k) {names names' : List ℕ} (inside : RectIn n r)
    (column : k < columns n) (d : Changed (named_if l u (k * rows) v) (r.low + 1) (r.high + 1) names names') where
  column-bit : (j : ℕ) → bit_at v j ≡ eqb j k
  column-bit j = ap (λ (w : ℕ). bit_at w j) single ∙ bit-single k j

  -- the other columns are named as before, and so is this one in the other rows
  name-kept : (j y : ℕ) → (Here r k j y → ⊥) → bit_at (get_or names' y 0) j ≡ bit_at (get_or names y 0) j
  name-kept j y not-here = go (ltb r.low y) (leb y r.high) refl refl
    where
      stays : (t : Bool) (w : ℕ) → (j ≡ k → ⊥) → bit_at (cond t w (bit_or w v)) j ≡ bit_at w j
      stays true w n = refl
      stays false w n =
          bit-or w v j ∙ ap (λ (t : Bool). bit_at w j || t) (column-bit j ∙ ne_eqb j k n) ∙ or-false (bit_at w j)

      go : (s t : Bool) → ltb r.low y ≡ s → leb y r.high ≡ t → bit_at (get_or names' y 0) j ≡ bit_at (get_or names y 0) j
      go false t e f =
          let m : y ≤ r.low = ltb-false r.low y e in
          ap (λ (w : ℕ). bit_at w j) (d.before y (omega arith))
      go true false e f =
          let m : r.high < y = leb-false y r.high f in
          ap (λ (w : ℕ). bit_at w j) (d.past y (omega arith))
      go true true e f =
          let m : r.low < y = ltb-true r.low y e in
          let q : y ≤ r.high = leb-true y r.high f in
          ap (λ (w : ℕ). bit_at w j) (d.within y (omega arith) (omega arith))
          ∙ stays (eqb (word_at l k y) (word_at u k y)) (get_or names y 0) (λ same. not-here (same, m, q))

  -- where this column is not named, the images are the same
  same_here : (y : ℕ) → r.low < y → y ≤ r.high → bit_at (get_or names' y 0) k ≡ false → word_at l k y ≡ word_at u k y
  same_here y m q e = go (eqb (word_at l k y) (word_at u k y)) refl
    where
      go : (t : Bool) → eqb (word_at l k y) (word_at u k y) ≡ t → word_at l k y ≡ word_at u k y
      go true f = eqb-true (word_at l k y) (word_at u k y) f
      go false f =
          let more : get_or names' y 0 ≡ bit_or (get_or names y 0) v
          = d.within y (omega arith) (omega arith) ∙ ap (λ (t : Bool). cond t (get_or names y 0) (bit_or (get_or names y 0) v)) f in
          absurd
          (false≢true
          (sym e ∙ ap (λ (w : ℕ). bit_at w k) more ∙ bit-or (get_or names y 0) v k
          ∙ ap (λ (t : Bool). bit_at (get_or names y 0) k || t) (column-bit k ∙ eq-eqb k k refl) ∙ or-true (bit_at (get_or names y 0) k)))

  pub column-tells : TellsBut n (words_from r k) l u names → TellsBut n (words_from r (k + 1)) l u names'
  column-tells t = record {
    size = d.same_size ∙ t.size;
    same = λ j y h m out e. ⊎_elim (λ here. at_once j y here e) (λ not-here. as_before j y h m out e not-here) (here-or-not r k j y);
    past = λ y h. d.past y (omega (arith, inside.y_in)) ∙ t.past y h;
    few = λ j y e. ⊎_elim (λ here. few-here j here.0) (λ not-here. t.few j y (sym (name-kept j y not-here) ∙ e))
        (here-or-not r k j y);
  }
    where
      few-here : (j : ℕ) → j ≡ k → j < columns n
      few-here j same = rw same column

      at_once : (j y : ℕ) → Here r k j y → bit_at (get_or names' y 0) j ≡ false → word_at l j y ≡ word_at u j y
      at_once j y here e =
          let same : j ≡ k = here.0 in
          rw same (same_here y here.1 here.2 (rw same at e))

      past-here : (j y : ℕ) → (Here r k j y → ⊥) → Word r k j y → Word r (k + 1) j y
      past-here j y not-here w = go (eqb j k) refl
        where
          go : (t : Bool) → eqb j k ≡ t → Word r (k + 1) j y
          go true e = absurd (not-here (eqb-true j k e, w.low, w.high))
          go false e =
              record { from = let n : j ≡ k → ⊥ = eqb-false j k e in omega (arith, w.from, n); to = w.to; low = w.low; high = w.high }

      as_before : (j y : ℕ) → j < columns n → y < rows → words_from r (k + 1) j y ≡ false → bit_at (get_or names' y 0) j ≡ false
          → (Here r k j y → ⊥) → word_at l j y ≡ word_at u j y
      as_before j y h m out e not-here =
          t.same j y h m (word-not r k j y λ w. not-word r (k + 1) j y out (past-here j y not-here w)) (sym (name-kept j y not-here) ∙ e)

-- ---- the names
-- they tell of the words that are as before
tells-beside : {n : ℕ} {r : Rect} {l u v names : List ℕ} → Tells n l u names → Beside r u v → TellsBut n (in_words r) l v names
tells-beside t b = record {
  size = t.size;
  same = λ k y h m out e. t.same k y h m e ∙ sym (b.kept k y m out);
  past = t.past;
  few = t.few;
}

-- two images that are the same, and blank names
tells-blank : (n : ℕ) (l names : List ℕ) → length names ≡ name_rows → ((y : ℕ) → get_or names y 0 ≡ 0) → Tells n l l names
tells-blank n l names h z = record {
  size = h;
  same = λ k y i j e. refl;
  past = λ y i. z y;
  few = λ k y e. absurd (false≢true (sym (ap (λ (w : ℕ). bit_at w k) (z y) ∙ bit-zero k) ∙ e));
}

pub tells-zeros : (n : ℕ) (l : List ℕ) → Tells n l l (replicate name_rows 0)
tells-zeros n l = tells-blank n l (replicate name_rows 0) (length-replicate {A = ℕ} name_rows 0) (zeros-at name_rows)

-- ---- what is lent
-- it stays so where the upper image changes
pub lent_still : {n : ℕ} {l u names u' names' : List ℕ} → Lent n l u names → length u' ≡ length u → Tells n l u' names' → Lent n l u' names'
lent_still h e t = record { small = h.small; lower = h.lower; upper = omega (arith, e, h.upper); tells = t }

-- but for the words of a rectangle that is changed in the upper image
pub lent-beside : {n : ℕ} {r : Rect} {l u v names : List ℕ} → Lent n l u names → length v ≡ length u → Beside r u v
    → LentBut n (in_words r) l v names
lent-beside h e b = record { small = h.small; lower = h.lower; upper = omega (arith, e, h.upper); tells = tells-beside h.tells b }
