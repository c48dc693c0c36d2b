-- Cells of an image painted: part by part around the last box that meets a rectangle.
use mathlib.Core.Path.{◌≡◌, refl, sym, ap, ◌∙◌}
use mathlib.Core.Bool.{Bool, true, false, ◌||◌, or-false, or_assoc, true≢false}
use mathlib.Core.List.{List}
use Prim.Native.Nat.{ℕ, ◌+◌, ◌<◌}
use native.Mathlib.Omega.{arith}
use Rattle.ground.proofs.Bools.{or-true-left}
use Rattle.ground.specs.Numbers.{any_to}
use Rattle.ground.proofs.AnyLaws.{any-to-more}
use Rattle.lattice.specs.Boxes.{box_at}
use Rattle.sweep_image.specs.Images.{Layer, Turned, in_rect, painted}
use Rattle.sweep_image.specs.Rects.{empty_rect, shared_rect, part_of}
use Rattle.sweep_image.specs.declared.Rect.{Rect}
use Rattle.sweep_image.proofs.ImageLaws.{shows-ext}
use Rattle.sweep_overlaps.specs.Overlaps.{rect_of, shade, meets_rect}
use Rattle.sweep_overlaps.proofs.RectLaws.{empty-bare}
use Rattle.sweep_overlaps.proofs.ShadeLaws.{shade-less}
use Rattle.sweep_overlaps.proofs.PartLaws.{side_at, parts_to, parts_out, parts-rest}
use Rattle.sweep_painting.specs.Painting.{Painted}

module _ (field : ℕ) (boxes : List ℕ) (x to : ℕ) (r : Rect) where
  -- a rectangle without cells
  pub painted-empty : {t : Bool} → t ≡ empty_rect r → t ≡ true → (u : List ℕ) → Painted field boxes x to (in_rect r) u u
  painted-empty is e u = record {
    shows = λ f s shown. shows-ext (λ y z. rw (empty-bare r (sym is ∙ e) y z) (sym (or-false (f y z)))) s;
    same_size = refl;
  }

  -- one painted as a whole
  pub painted-whole : (u u' : List ℕ) → Turned field (painted r) u u' → Painted field boxes x to (in_rect r) u u'
  painted-whole u u' t = record { shows = λ f s shown. t.shows f s; same_size = t.same_size }

  -- ---- around the last box that meets it

  pub painted-none : (c : Rect) (u : List ℕ) → Painted field boxes x to (parts_to r c 0) u u
  unfolding any_to
  painted-none c u = record { shows = λ f s shown. shows-ext (λ y z. sym (or-false (f y z))) s; same_size = refl }

  module _ (n : ℕ) (before : n < to) (c : Rect) where
    pub painted-more : (m : ℕ) (u v w : List ℕ) → Painted field boxes x to (parts_to r c m) u v
        → Painted field boxes x n (in_rect (part_of r c (side_at m))) v w → Painted field boxes x to (parts_to r c (m + 1)) u w
    painted-more m u v w p q = record {
      shows = λ f s shown. shows-ext
          (λ y z. or_assoc (f y z) (parts_to r c m y z) (in_rect (part_of r c (side_at m)) y z) ∙ ap (λ (b : Bool). f y z || b) (sym (any-to-more m _)))
          (q.shows _ (p.shows f s shown) (λ y z h. or-true-left (f y z) (parts_to r c m y z) (shown y z (shade-less boxes x y z n to (omega (arith, before)) h))));
      same_size = q.same_size ∙ p.same_size;
    }

    -- what is left is the box's, and shown already
    pub painted-all : meets_rect (box_at boxes n) x r ≡ true → c ≡ shared_rect r (rect_of (box_at boxes n)) → (u u' : List ℕ)
        → Painted field boxes x to (parts_to r c 4) u u' → Painted field boxes x to (in_rect r) u u'
    painted-all found c-is u u' p = record {
      shows = λ f s shown. shows-ext (λ y z. one f shown y z (parts_to r c 4 y z) (in_rect r y z) refl refl) (p.shows f s shown);
      same_size = p.same_size;
    }
      where
        one : (f : Layer) → ((y z : ℕ) → shade boxes x to y z ≡ true → f y z ≡ true) → (y z : ℕ) (a b : Bool) → parts_to r c 4 y z ≡ a
            → in_rect r y z ≡ b → f y z || a ≡ f y z || b
        one f shown y z true true e h = refl
        one f shown y z true false e h = absurd (true≢false (sym e ∙ parts_out boxes x r n found c c-is y z h))
        one f shown y z false true e h = rw (shown y z (parts-rest boxes x r n found c c-is to before y z e h))
        one f shown y z false false e h = refl
