-- A word copied from the upper image to the lower one: its column need be named no longer.
use mathlib.Core.Path.{◌≡◌, refl, sym, ◌∙◌, ap}
use mathlib.Core.Bool.{Bool, true, false, not, ◌&&◌, and-true, false≢true}
use mathlib.Core.List.{List, [], ◌∷◌}
use Prim.Native.Nat.{ℕ, zero, suc, ◌+◌, ◌*◌, ◌≤◌, ◌<◌}
use native.Mathlib.Omega.{arith}
use lib.Bits.{bit_or}
use lib.Dec.{eqb, leb}
use lib.ListN.{length, get_or, set, length-set}
use Rattle.std.proofs.Common.{fold}
use lib.Seq.{get_or-set_same, get_or-set_other}
use borrow.Author.Tests.{eqb-true, eqb-false, ne_eqb, leb-true, leb-false}
use Rattle.sweep_words.specs.Words.{bit_at, Lowest, WithoutLowest}
use Rattle.sweep_words.proofs.BitLaws.{bit-zero, bit-some, or-none}
use Rattle.sweep_image.specs.Images.{columns, word_at, rows, image_size}
use Rattle.sweep_image.specs.Changes.{Changed}
use Rattle.sweep_names.specs.Names.{Tells}
use Rattle.sweep_settling.specs.Settling.{Settled}

-- ---- rows that are 0
-- where the numbers of a list have no bit together, each is 0
pub fold-or-none : (l : List ℕ) (w : ℕ) → fold bit_or w l ≡ 0 → (w ≡ 0) × ((i : ℕ) → get_or l i 0 ≡ 0)
fold-or-none [] w e = (e, λ i. refl)
fold-or-none (a ∷ l) w e =
    let rest = fold-or-none l (bit_or w a) e in
    let both = or-none w a rest.0 in
    (both.0, each both.1 rest.1)
  where
    each : a ≡ 0 → ((i : ℕ) → get_or l i 0 ≡ 0) → (i : ℕ) → get_or (a ∷ l) i 0 ≡ 0
    each front rest zero = front
    each front rest (suc i) = rest i

-- ---- one word
-- a bit that is left is one of the word's
left-set : (m m' k j : ℕ) → Lowest m k → WithoutLowest m m' → bit_at m' j ≡ true → bit_at m j ≡ true
left-set m m' k j low d e = go (bit_at m j) refl
  where
    go : (t : Bool) → bit_at m j ≡ t → t ≡ true
    go true q = refl
    go false q = absurd (false≢true (sym (d.bits k low j ∙ ap (λ (t : Bool). t && not (eqb j k)) q) ∙ e))

-- another bit that is not left is not one of the word's
left-clear : (m m' k j : ℕ) → Lowest m k → WithoutLowest m m' → (j ≡ k → ⊥) → bit_at m' j ≡ false → bit_at m j ≡ false
left-clear m m' k j low d n e =
    sym (and-true (bit_at m j)) ∙ ap (λ (t : Bool). bit_at m j && not t) (sym (ne_eqb j k n)) ∙ sym (d.bits k low j) ∙ e

-- the columns that m names in row y are yet to be copied, k first
module _ (names : List ℕ) (y : ℕ) {n k m : ℕ} {l u : List ℕ} (low : Lowest m k) (row : y < length names)
    (t : Tells n l u (set names y m)) where
  this-row : (v j z : ℕ) → z ≡ y → bit_at (get_or (set names y v) z 0) j ≡ bit_at v j
  this-row v j z e = ap (λ (x : ℕ). bit_at (get_or (set names y v) x 0) j) e ∙ ap (λ (w : ℕ). bit_at w j) (get_or-set_same names y v 0 row)

  -- a row that names a column lies in the field, and so does the column
  row_in : y ≤ n
  row_in = go (leb y n) refl
    where
      go : (s : Bool) → leb y n ≡ s → y ≤ n
      go true e = leb-true y n e
      go false e =
          let z : m ≡ 0 = sym (get_or-set_same names y m 0 row) ∙ t.past y (leb-false y n e) in
          let some-bit : 0 < m = bit-some m k low.set in
          absurd (omega arith)

  column-in : k < columns n
  column-in = t.few k y (this-row m k y refl ∙ low.set)

  pub word_in : (img : List ℕ) → n ≤ 1024 → image_size n ≤ length img → k * rows + y < length img
  word_in img small room = omega (arith, row_in, column-in)

  -- what the names tell once the word is copied
  module _ {m' : ℕ} (d : WithoutLowest m m') (small : n ≤ 1024) (room : image_size n ≤ length l) where
    other_row : (z : ℕ) → (z ≡ y → ⊥) → get_or (set names y m') z 0 ≡ get_or (set names y m) z 0
    other_row z other = get_or-set_other names y z m' 0 other ∙ sym (get_or-set_other names y z m 0 other)

    same_after : (j z : ℕ) → j < columns n → z < rows → bit_at (get_or (set names y m') z 0) j ≡ false
        → word_at (set l (k * rows + y) (get_or u (k * rows + y) 0)) j z ≡ word_at u j z
    same_after j z h i e = go (eqb z y) (eqb j k) refl refl
      where
        go : (s q : Bool) → eqb z y ≡ s → eqb j k ≡ q → word_at (set l (k * rows + y) (get_or u (k * rows + y) 0)) j z ≡ word_at u j z
        go true true f g =
            let same_row : z ≡ y = eqb-true z y f in
            let same-column : j ≡ k = eqb-true j k g in
            rw (same_row, same-column) (get_or-set_same l (k * rows + y) (get_or u (k * rows + y) 0) 0 (word_in l small room))
        go true false f g =
            let same_row : z ≡ y = eqb-true z y f in
            let other : (j ≡ k → ⊥) = eqb-false j k g in
            get_or-set_other l (k * rows + y) (j * rows + z) (get_or u (k * rows + y) 0) 0 (λ q. other (omega arith))
            ∙ t.same j z h i
            (this-row m j z same_row ∙ left-clear m m' k j low d other (sym (this-row m' j z same_row) ∙ e))
        go false q f g =
            let other : (z ≡ y → ⊥) = eqb-false z y f in
            let r : y ≤ n = row_in in
            get_or-set_other l (k * rows + y) (j * rows + z) (get_or u (k * rows + y) 0) 0 (λ q. other (omega arith))
            ∙ t.same j z h i (ap (λ (w : ℕ). bit_at w j) (sym (other_row z other)) ∙ e)

    past_after : (z : ℕ) → n < z → get_or (set names y m') z 0 ≡ 0
    past_after z h = let r : y ≤ n = row_in in other_row z (λ q. omega arith) ∙ t.past z h

    few-after : (j z : ℕ) → bit_at (get_or (set names y m') z 0) j ≡ true → j < columns n
    few-after j z e = go (eqb z y) refl
      where
        go : (s : Bool) → eqb z y ≡ s → j < columns n
        go true f =
            let same_row : z ≡ y = eqb-true z y f in
            t.few j y (this-row m j y refl ∙ left-set m m' k j low d (sym (this-row m' j z same_row) ∙ e))
        go false f = t.few j z (ap (λ (w : ℕ). bit_at w j) (sym (other_row z (eqb-false z y f))) ∙ e)

    pub copied : Tells n (set l (k * rows + y) (get_or u (k * rows + y) 0)) u (set names y m')
    copied = record {
      size = length-set names y m' ∙ sym (length-set names y m) ∙ t.size;
      same = same_after;
      past = past_after;
      few = few-after;
    }

-- ---- all of them
-- no column is named once the rows of the field are blank
pub settled : {n y : ℕ} {u l l' names names' : List ℕ} → n < y → Changed (λ i w. 0) 0 y names names' → Tells n l' u names'
    → length l' ≡ length l → image_size n ≤ length l → Settled n u l l' names'
settled {n} {y} {u} {l} {l'} {names} {names'} h c t e room = record {
  shows = λ f s. record {
    size = omega arith;
    at = λ k z b i j m. ap (λ (w : ℕ). bit_at w b) (t.same k z i j (ap (λ (w : ℕ). bit_at w k) (blank z) ∙ bit-zero k)) ∙ s.at k z b i j m;
  };
  same_size = e;
  blank = blank;
  tells = t;
}
  where
    blank : (z : ℕ) → get_or names' z 0 ≡ 0
    blank z = go (leb z n) refl
      where
        go : (s : Bool) → leb z n ≡ s → get_or names' z 0 ≡ 0
        go true f = let i : z ≤ n = leb-true z n f in c.within z (omega arith) (omega arith)
        go false f = t.past z (leb-false z n f)
