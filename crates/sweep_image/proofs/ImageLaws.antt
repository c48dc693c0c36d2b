-- Images column by column: a rectangle filled or emptied in the columns before that of a loop, which at the end changes what the image
-- shows; layers that are the same cell by cell, and blank images.
use mathlib.Core.Path.{◌≡◌, refl, ◌∙◌, ap}
use mathlib.Core.Bool.{Bool, true, false}
use mathlib.Core.List.{List}
use Prim.Native.Nat.{ℕ, zero, suc, ◌+◌, ◌*◌, ◌/◌, ◌≤◌, ◌<◌}
use native.Mathlib.Omega.{arith}
use lib.Dec.{ltb}
use lib.ListN.{length, get_or, replicate, length-replicate}
use borrow.Author.Tests.{ltb-true, ltb-false}
use Rattle.sweep_words.specs.Words.{bit_at}
use Rattle.sweep_words.proofs.BitLaws.{bit-zero}
use Rattle.sweep_image.specs.Images.{Layer, word_at, Shows, in_rect, Turned, filling, filled, rows, image_size}
use Rattle.sweep_image.specs.Changes.{ColumnFilled}
use Rattle.sweep_image.specs.declared.Fill.{Fill}
use Rattle.sweep_image.specs.declared.Rect.{Rect}
use Rattle.sweep_image.proofs.ColumnLaws.{left-of, right_of, filling-kept}

-- ---- column by column
-- the columns before j are filled or emptied
pub record FilledTo (fill : Fill) (r : Rect) (j : ℕ) (u u' : List ℕ) : Type 0 where
  pub same_size : length u' ≡ length u
  pub done : (k y b : ℕ) → k < j → y < rows → b < 64
      → bit_at (word_at u' k y) b ≡ filling fill (bit_at (word_at u k y) b) (in_rect r y (63 * k + b))
  pub rest : (k y : ℕ) → j ≤ k → y < rows → word_at u' k y ≡ word_at u k y

module _ (fill : Fill) where
  -- where no cell of a column lies in the rectangle, the column stays as it is
  pub filled_none : (r : Rect) (u : List ℕ) → FilledTo fill r (r.from / 63) u u
  filled_none r u = record {
    same_size = refl;
    done = λ k y b h m l. filling-kept fill (bit_at (word_at u k y) b) (left-of r y (63 * k + b) (omega arith));
    rest = λ k y h m. refl;
  }

  pub filled_more : {r : Rect} {j : ℕ} {u u' u'' : List ℕ} → FilledTo fill r j u u' → ColumnFilled fill r j u' u''
      → FilledTo fill r (j + 1) u u''
  filled_more {r} {j} {u} {u'} {u''} d c = record {
    same_size = c.same_size ∙ d.same_size;
    done = λ k y b h m l. upto k y b h m l (ltb k j) refl;
    rest = λ k y h m. c.other k y (λ e. omega arith) m ∙ d.rest k y (omega arith) m;
  }
    where
      upto : (k y b : ℕ) → k < j + 1 → y < rows → b < 64 → (t : Bool) → ltb k j ≡ t
          → bit_at (word_at u'' k y) b ≡ filling fill (bit_at (word_at u k y) b) (in_rect r y (63 * k + b))
      upto k y b h m l true e =
          let before : k < j = ltb-true k j e in
          ap (λ (w : ℕ). bit_at w b) (c.other k y (λ q. omega arith) m) ∙ d.done k y b before m l
      upto k y b h m l false e =
          let from : j ≤ k = ltb-false k j e in
          let same : k ≡ j = omega arith in
          rw same
          (c.at y b m l ∙ ap (λ (w : ℕ). filling fill (bit_at w b) (in_rect r y (63 * j + b))) (d.rest j y (omega arith) m))

  pub filled-all : {r : Rect} {u u' : List ℕ} (n : ℕ) → FilledTo fill r (r.to / 63 + 1) u u' → Turned n (filled fill r) u u'
  filled-all {r} {u} {u'} n d = record { shows = shows; same_size = d.same_size }
    where
      bits : (k y b : ℕ) → y < rows → b < 64 → (t : Bool) → ltb k (r.to / 63 + 1) ≡ t
          → bit_at (word_at u' k y) b ≡ filling fill (bit_at (word_at u k y) b) (in_rect r y (63 * k + b))
      bits k y b m l true e = d.done k y b (ltb-true k (r.to / 63 + 1) e) m l
      bits k y b m l false e =
          let from : r.to / 63 + 1 ≤ k = ltb-false k (r.to / 63 + 1) e in
          ap (λ (w : ℕ). bit_at w b) (d.rest k y from m)
          ∙ filling-kept fill (bit_at (word_at u k y) b) (right_of r y (63 * k + b) (omega arith))

      shows : (f : Layer) → Shows n f u → Shows n (filled fill r f) u'
      shows f s = record {
        size = omega (arith, s.size, d.same_size);
        at = λ k y b h m l.
            bits k y b m l (ltb k (r.to / 63 + 1)) refl
            ∙ ap (λ (t : Bool). filling fill t (in_rect r y (63 * k + b))) (s.at k y b h m l);
      }

-- ---- what an image shows
pub shows-ext : {n : ℕ} {f g : Layer} {img : List ℕ} → ((y z : ℕ) → f y z ≡ g y z) → Shows n f img → Shows n g img
shows-ext e s = record { size = s.size; at = λ k y b h m l. s.at k y b h m l ∙ e y (63 * k + b) }

-- an image of zeros shows the empty layer
shows-none : (n : ℕ) (img : List ℕ) → image_size n ≤ length img → ((i : ℕ) → get_or img i 0 ≡ 0) → Shows n (λ y z. false) img
shows-none n img h z = record { size = h; at = λ k y b i j l. ap (λ (w : ℕ). bit_at w b) (z (k * rows + y)) ∙ bit-zero b }

-- every word of an array of zeros is 0
pub zeros-at : (m i : ℕ) → ◌≡◌ {A = ℕ} (get_or (replicate m 0) i 0) 0
zeros-at zero i = refl
zeros-at (suc m) zero = refl
zeros-at (suc m) (suc i) = zeros-at m i

-- an image as it is first lent
pub shows-zeros : (n m : ℕ) → image_size n ≤ m → Shows n (λ y z. false) (replicate m 0)
shows-zeros n m h = shows-none n (replicate m 0) (rw (length-replicate {A = ℕ} m 0) h) (zeros-at m)
