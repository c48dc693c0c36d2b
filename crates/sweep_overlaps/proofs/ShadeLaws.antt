-- The layer from the boxes: more boxes, the boxes from one on, and the first box or the last that meets a rectangle.
use mathlib.Core.Path.{◌≡◌, refl, sym, ◌∙◌}
use mathlib.Core.Bool.{Bool, true, false, ◌&&◌, ◌||◌, true≢false}
use mathlib.Core.List.{List}
use Prim.Native.Nat.{ℕ, ◌+◌, ◌≤◌, ◌<◌}
use native.Mathlib.Omega.{arith}
use lib.Dec.{leb, ltb}
use borrow.Author.Tests.{le-leb, lt-leb, leb-true, leb-false, ltb-true}
use Rattle.std.specs.Option.{MatchOption, unwrap_or}
use Rattle.std.proofs.Common.{Option, Some, None}
use Rattle.ground.specs.FirstPlace.{FirstPlace}
use Rattle.ground.proofs.Bools.{and-true, not_so}
use Rattle.ground.proofs.AnyLaws.{any-to-less, any-to-more, any-to-true, any-to-false, any-to-none, any-to-ext}
use Rattle.lattice.specs.Boxes.{box_at}
use Rattle.sweep_image.specs.Images.{in_rect}
use Rattle.sweep_image.specs.declared.Rect.{Rect}
use Rattle.sweep_overlaps.specs.Overlaps.{rect_of, shade_of, shade, shade_from, meets_rect, meets_at}
use Rattle.sweep_overlaps.proofs.RectLaws.{in-has, has-meets}

-- ---- the layer at a cell

module _ (boxes : List ℕ) (x y z : ℕ) where
  pub from-none : (from : ℕ) → shade_from boxes x from from y z ≡ false
  unfolding shade_from
  from-none from = any-to-none from λ i l. rw (lt-leb from i l)

  pub from_more : (from n : ℕ) → from ≤ n → shade_from boxes x from (n + 1) y z ≡ shade_from boxes x from n y z || shade_of boxes x n y z
  unfolding shade_from
  from_more from n h = any-to-more n _ ∙ rw (le-leb from n h)

  -- where no box before `from` has the cell, those from there on decide
  pub shade-from : (from to : ℕ) → shade boxes x from y z ≡ false → shade boxes x to y z ≡ shade_from boxes x from to y z
  unfolding shade shade_from
  shade-from from to bare = any-to-ext to λ i l. one i (leb from i) refl
    where
      one : (i : ℕ) (b : Bool) → leb from i ≡ b → shade_of boxes x i y z ≡ b && shade_of boxes x i y z
      one i true e = refl
      one i false e = any-to-false from (λ i. shade_of boxes x i y z) bare i (leb-false from i e)

  -- nor one before n, nor n
  pub shade-past : (from n : ℕ) → shade boxes x from y z ≡ false → shade_from boxes x from n y z ≡ false → shade_of boxes x n y z ≡ false
      → shade boxes x (n + 1) y z ≡ false
  unfolding shade
  shade-past from n bare none e = any-to-more n _ ∙ rw (shade-from from n bare ∙ none, e)

  pub shade-some : (to n : ℕ) → n < to → shade_of boxes x n y z ≡ true → shade boxes x to y z ≡ true
  unfolding shade
  shade-some to n h e = any-to-true to _ n h e

  -- what some boxes have, more boxes have
  pub shade-less : (n to : ℕ) → n ≤ to → shade boxes x n y z ≡ true → shade boxes x to y z ≡ true
  unfolding shade
  shade-less n to h e = any-to-less n to _ h e

-- ---- the first box that meets a rectangle, and the last

-- a box that does not meet it has no cell of it
pub missed : (boxes : List ℕ) (x : ℕ) (r : Rect) (n : ℕ) → meets_rect (box_at boxes n) x r ≡ false → (y z : ℕ) → in_rect r y z ≡ true
    → shade_of boxes x n y z ≡ false
missed boxes x r n miss y z h =
    not_so (shade_of boxes x n y z) λ e. true≢false (sym (meeting (and-true (ltb x (box_at boxes n).x_end) (in_rect (rect_of (box_at boxes n)) y z) e)) ∙ miss)
  where
    meeting : (ltb x (box_at boxes n).x_end ≡ true) × (in_rect (rect_of (box_at boxes n)) y z ≡ true) → meets_rect (box_at boxes n) x r ≡ true
    meeting e = has-meets (box_at boxes n) x r y z (in-has r y z h) (ltb-true x (box_at boxes n).x_end e.0) (in-has (rect_of (box_at boxes n)) y z e.1)

-- no box before the first that meets it has a cell of it
pub first-bare : (boxes : List ℕ) (x : ℕ) (r : Rect) {from to n : ℕ} → FirstPlace (meets_at boxes x r) from to n → (y z : ℕ) → in_rect r y z ≡ true
    → shade_from boxes x from n y z ≡ false
unfolding shade_from
first-bare boxes x r {from} {to} {n} first y z h = any-to-none n λ i l. one i l (leb from i) refl
  where
    one : (i : ℕ) → i < n → (b : Bool) → leb from i ≡ b → b && shade_of boxes x i y z ≡ false
    one i l true e = missed boxes x r i (first.earlier i (leb-true from i e) l) y z h
    one i l false e = refl

-- what `find` gives along a range of boxes, or else its end
pub place_found : (f : ℕ → Bool) (from to : ℕ) (r : Option ℕ) → from ≤ to
    → MatchOption r ((k : ℕ) → from ≤ k → k < to → f k ≡ false)
    (λ i. (from ≤ i) × (i < to) × (f i ≡ true) × ((k : ℕ) → from ≤ k → k < i → f k ≡ false))
    → FirstPlace f from to (unwrap_or r to)
place_found f from to None h m = record { onward = h; within = omega arith; earlier = m; passes = λ l. absurd (omega arith) }
place_found f from to (Some i) h m = record { onward = m.0; within = omega (arith, m.1); earlier = m.3; passes = λ l. m.2 }

-- ---- the last box that meets it, from `to` down: no box from number n on meets it
pub record Down (boxes : List ℕ) (x from to : ℕ) (r : Rect) (n : ℕ) : Type 0 where
  pub onward : from ≤ n
  pub within : n ≤ to
  pub later : (i : ℕ) → n ≤ i → i < to → meets_rect (box_at boxes i) x r ≡ false
