-- The words of a rectangle: an image changed in them only, rectangle after rectangle.
use mathlib.Core.Path.{◌≡◌, refl, sym, ◌∙◌}
use mathlib.Core.Bool.{true, false, ◌&&◌, true≢false}
use mathlib.Core.List.{List}
use Prim.Native.Nat.{ℕ, ◌/◌, ◌≤◌, ◌<◌}
use native.Mathlib.Omega.{arith}
use lib.Dec.{ltb, leb}
use borrow.Author.Tests.{ltb-true, leb-true, lt-ltb, le-leb}
use Rattle.ground.proofs.Bools.{and-true, not_so}
use Rattle.sweep_image.specs.Images.{Beside, after, words_from}
use Rattle.sweep_image.specs.declared.Rect.{Rect}

-- ---- a word of a rectangle
-- the word of row y in column k, in one of the columns from j on
pub record Word (r : Rect) (j k y : ℕ) : Type 0 where
  pub from : j ≤ k
  pub to : k ≤ r.to / 63
  pub low : r.low < y
  pub high : y ≤ r.high

module _ (r : Rect) (j k y : ℕ) where
  in-word : words_from r j k y ≡ true → Word r j k y
  in-word e =
      let kz = and-true (leb j k && leb k (r.to / 63)) (after r.low r.high y) e in
      let on-z = and-true (leb j k) (leb k (r.to / 63)) kz.0 in
      let on-y = and-true (ltb r.low y) (leb y r.high) kz.1 in
      record {
        from = leb-true j k on-z.0;
        to = leb-true k (r.to / 63) on-z.1;
        low = ltb-true r.low y on-y.0;
        high = leb-true y r.high on-y.1;
      }

  word_in : Word r j k y → words_from r j k y ≡ true
  word_in w =
      rw (le-leb j k w.from, le-leb k (r.to / 63) w.to, lt-ltb r.low y w.low, le-leb y r.high w.high)

  pub word-not : (Word r j k y → ⊥) → words_from r j k y ≡ false
  word-not h = not_so (words_from r j k y) λ e. h (in-word e)

  pub not-word : words_from r j k y ≡ false → Word r j k y → ⊥
  not-word e w = true≢false (sym (word_in w) ∙ e)

-- ---- an image changed in the words of a rectangle
pub beside_none : (r : Rect) (u : List ℕ) → Beside r u u
beside_none r u = record { kept = λ k y h e. refl }

pub beside-then : {r : Rect} {u v w : List ℕ} → Beside r u v → Beside r v w → Beside r u w
beside-then s t = record { kept = λ k y h e. t.kept k y h e ∙ s.kept k y h e }

-- a rectangle in another
pub beside-less : (r s : Rect) {u v : List ℕ} → r.low ≤ s.low → s.high ≤ r.high → r.from ≤ s.from → s.to ≤ r.to → Beside s u v
    → Beside r u v
beside-less r s low high from to b = record {
  kept = λ k y h e. b.kept k y h (word-not s (s.from / 63) k y λ w.
      not-word r (r.from / 63) k y e (record {
        from = omega (arith, from, w.from);
        to = omega (arith, to, w.to);
        low = omega (arith, low, w.low);
        high = omega (arith, high, w.high);
      }));
}
