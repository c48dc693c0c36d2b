-- A rectangle of an image shown anew: box by box, and part by part around the first box that meets it.
use mathlib.Core.Path.{◌≡◌, refl, sym, ap, ◌∙◌}
use mathlib.Core.Bool.{Bool, true, false, cond, not, ◌&&◌, ◌||◌, and-true, and-false, or-false, or_assoc, true≢false}
use mathlib.Core.List.{List}
use Prim.Native.Nat.{ℕ, ◌+◌, ◌≤◌, ◌<◌}
use native.Mathlib.Omega.{arith}
use lib.ListN.{length}
use borrow.Author.Tests.{lt-ltb}
use Rattle.ground.specs.FirstPlace.{FirstPlace}
use Rattle.ground.proofs.Conds.{cond-agree, cond-twice}
use Rattle.ground.specs.Numbers.{any_to}
use Rattle.ground.proofs.AnyLaws.{any-to-more}
use Rattle.lattice.specs.Boxes.{box_at}
use Rattle.sweep_image.specs.Images.{Layer, Shows, Turned, Beside, RectIn, in_rect, painted, wiped}
use Rattle.sweep_image.specs.Rects.{empty_rect, shared_rect, part_of}
use Rattle.sweep_image.specs.declared.Rect.{Rect}
use Rattle.sweep_image.specs.declared.Side.{Side}
use Rattle.sweep_image.proofs.ImageLaws.{shows-ext}
use Rattle.sweep_image.proofs.WordLaws.{beside-less}
use Rattle.sweep_overlaps.specs.Overlaps.{rect_of, shade_of, shade, shade_from, FirstBoxes, meets_rect, meets_at}
use Rattle.sweep_overlaps.proofs.RectLaws.{empty-bare, met, shared-in, shared-fits}
use Rattle.sweep_overlaps.proofs.ShadeLaws.{from-none, from_more, shade-from, shade-past, missed, first-bare}
use Rattle.sweep_overlaps.proofs.PartLaws.{side_at, parts_to, part_in, part_out, parts_out, parts-rest}
use Rattle.sweep_carving.specs.Carving.{replaced, joined, Carved}

-- ---- an image, and what it shows cell by cell

turned-agree : (n : ℕ) (a b : Layer → Layer) (u u' : List ℕ) → ((f : Layer) (y z : ℕ) → a f y z ≡ b f y z) → Turned n a u u'
    → Turned n b u u'
turned-agree n a b u u' e t = record { shows = λ f s. shows-ext (e f) (t.shows f s); same_size = t.same_size }

turned_none : (n : ℕ) (a : Layer → Layer) (u : List ℕ) → ((f : Layer) (y z : ℕ) → f y z ≡ a f y z) → Turned n a u u
turned_none n a u e = record { shows = λ f s. shows-ext (e f) s; same_size = refl }

turned_then : (n : ℕ) (a b c : Layer → Layer) (u v w : List ℕ) → ((f : Layer) (y z : ℕ) → b (a f) y z ≡ c f y z) → Turned n a u v
    → Turned n b v w → Turned n c u w
turned_then n a b c u v w e s t = record { shows = λ f h. shows-ext (e f) (t.shows (a f) (s.shows f h)); same_size = t.same_size ∙ s.same_size }

wipe-cell : (a f : Bool) → f && not a ≡ cond a false f
wipe-cell true f = and-false f
wipe-cell false f = and-true f

-- ---- one box of a rectangle

module _ (field : ℕ) (boxes : List ℕ) (x i : ℕ) (r : Rect) where
  pub box-missed : {t : Bool} → t ≡ meets_rect (box_at boxes i) x r → t ≡ false → (u : List ℕ)
      → Turned field (joined r (shade_of boxes x i)) u u
  box-missed is miss u = turned_none field _ u λ f y z. sym (one (in_rect r y z) y z refl f)
    where
      one : (b : Bool) (y z : ℕ) → in_rect r y z ≡ b → (f : Layer) → f y z || (b && shade_of boxes x i y z) ≡ f y z
      one true y z e f = rw (missed boxes x r i (sym is ∙ miss) y z e) (or-false (f y z))
      one false y z e f = or-false (f y z)

  pub box-painted : {t : Bool} → t ≡ meets_rect (box_at boxes i) x r → t ≡ true → {c : Rect} → c ≡ shared_rect r (rect_of (box_at boxes i))
      → (u u' : List ℕ) → Turned field (painted c) u u' → Turned field (joined r (shade_of boxes x i)) u u'
  box-painted is e c-is u u' t = turned-agree field _ _ u u' (λ f y z. rw (c-is, shared-in r (rect_of (box_at boxes i)) y z, lt-ltb x (box_at boxes i).x_end (met (box_at boxes i) x r (sym is ∙ e)).past)) t

  -- what it has of the rectangle lies in its words
  pub common-beside : {c : Rect} → c ≡ shared_rect r (rect_of (box_at boxes i)) → {u u' : List ℕ} → Beside c u u' → Beside r u u'
  common-beside c-is b = beside-less r (shared_rect r (rect_of (box_at boxes i))) (omega arith) (omega arith) (omega arith) (omega arith) (rw c-is at b)

  pub common-fits : RectIn field r → FirstBoxes field boxes (i + 1) → {t : Bool} → t ≡ meets_rect (box_at boxes i) x r → t ≡ true → {c : Rect}
      → c ≡ shared_rect r (rect_of (box_at boxes i)) → RectIn field c
  common-fits h k is e c-is = rw c-is (shared-fits field r (box_at boxes i) x h (k.inside i (omega arith)) (met (box_at boxes i) x r (sym is ∙ e)))

-- ---- box by box

joined-none : (a f : Bool) → f ≡ f || (a && false)
joined-none true f = sym (or-false f)
joined-none false f = sym (or-false f)

joined-cell : (a g h f : Bool) → f || (a && g) || (a && h) ≡ f || (a && (g || h))
joined-cell true g h f = or_assoc f g h
joined-cell false g h f = or-false (f || false)

wiped-joined : (a g f : Bool) → (f && not a) || (a && g) ≡ cond a g f
wiped-joined true g f = rw (and-false f)
wiped-joined false g f = or-false (f && true) ∙ and-true f

module _ (field : ℕ) (boxes : List ℕ) (x from : ℕ) (r : Rect) where
  pub boxes-none : (u : List ℕ) → Turned field (joined r (shade_from boxes x from from)) u u
  boxes-none u = turned_none field _ u λ f y z. joined-none (in_rect r y z) (f y z) ∙ ap (λ (b : Bool). f y z || (in_rect r y z && b)) (sym (from-none boxes x y z from))

  pub boxes-more : (i : ℕ) → from ≤ i → (u v w : List ℕ) → Turned field (joined r (shade_from boxes x from i)) u v
      → Turned field (joined r (shade_of boxes x i)) v w → Turned field (joined r (shade_from boxes x from (i + 1))) u w
  boxes-more i h u v w s t =
      turned_then field _ _ _ u v w
      (λ f y z. joined-cell (in_rect r y z) (shade_from boxes x from i y z) (shade_of boxes x i y z) (f y z) ∙ ap (λ (b : Bool). f y z || (in_rect r y z && b)) (sym (from_more boxes x y z from i h)))
      s t

  pub boxes-all : (to : ℕ) (u v w : List ℕ) → Turned field (wiped r) u v → Turned field (joined r (shade_from boxes x from to)) v w
      → Turned field (replaced r (shade_from boxes x from to)) u w
  boxes-all to u v w s t = turned_then field _ _ _ u v w (λ f y z. wiped-joined (in_rect r y z) (shade_from boxes x from to y z) (f y z)) s t

-- ---- a rectangle carved

-- some cells of a rectangle shown anew, of which no box before `from` has one
pub record Partly (field : ℕ) (boxes : List ℕ) (x from to : ℕ) (r : Rect) (d : Layer) (u u' : List ℕ) : Type 0 where
  pub shows : (f : Layer) → Shows field f u
      → ((y z : ℕ) → shade boxes x to y z ≡ true → f y z ≡ true)
      → ((y z : ℕ) → in_rect r y z ≡ true → shade boxes x from y z ≡ false)
      → Shows field (λ y z. cond (d y z) (shade boxes x to y z) (f y z)) u'
  pub same_size : length u' ≡ length u

cond-true : (a : Bool) {g f : Bool} → g ≡ true → f ≡ true → cond a g f ≡ true
cond-true true e k = e
cond-true false e k = k

module _ (field : ℕ) (boxes : List ℕ) (x from to : ℕ) (r : Rect) where
  -- a rectangle without cells
  pub carved-none : {t : Bool} → t ≡ empty_rect r → t ≡ true → (u : List ℕ) → Carved field boxes x from to r u u
  carved-none is e u = record {
    shows = λ f s shown bare. shows-ext (λ y z. rw (empty-bare r (sym is ∙ e) y z)) s;
    same_size = refl;
  }

  -- one shown anew by the boxes from `from` on
  pub carved-whole : (u u' : List ℕ) → Turned field (replaced r (shade_from boxes x from to)) u u' → Carved field boxes x from to r u u'
  carved-whole u u' t = record {
    shows = λ f s shown bare. shows-ext (λ y z. cond-agree (in_rect r y z) _ _ _ (λ e. sym (shade-from boxes x y z from to (bare y z e)))) (t.shows f s);
    same_size = t.same_size;
  }

  -- one that no box meets
  pub carved-leaf : (n : ℕ) → FirstPlace (meets_at boxes x r) from to n → n ≡ to → (u u' : List ℕ) → Turned field (wiped r) u u'
      → Carved field boxes x from to r u u'
  carved-leaf n first e u u' t = carved-whole u u' (turned-agree field _ _ u u' (λ f y z. wipe-cell (in_rect r y z) (f y z) ∙ cond-agree (in_rect r y z) _ _ _ (λ h. sym (ap (λ (k : ℕ). shade_from boxes x from k y z) (sym e) ∙ first-bare boxes x r first y z h))) t)

  -- ---- around the first box that meets it

  module _ (n : ℕ) (first : FirstPlace (meets_at boxes x r) from to n) (before : n < to) (c : Rect) (c-is : c ≡ shared_rect r (rect_of (box_at boxes n))) where
    pub parts_none : (u : List ℕ) → Partly field boxes x from to r (parts_to r c 0) u u
    unfolding any_to
    parts_none u = record { shows = λ f s shown bare. s; same_size = refl }

    part-past : (side : Side) (y z : ℕ) → in_rect (part_of r c side) y z ≡ true → ((y z : ℕ) → in_rect r y z ≡ true → shade boxes x from y z ≡ false)
        → shade boxes x (n + 1) y z ≡ false
    part-past side y z h bare =
        let inside = part_in boxes x r n (first.passes before) c c-is side y z h in
        shade-past boxes x y z from n (bare y z inside) (first-bare boxes x r first y z inside) (part_out boxes x r n (first.passes before) c c-is side y z h)

    pub parts_more : (m : ℕ) (u v w : List ℕ) → Partly field boxes x from to r (parts_to r c m) u v
        → Carved field boxes x (n + 1) to (part_of r c (side_at m)) v w → Partly field boxes x from to r (parts_to r c (m + 1)) u w
    parts_more m u v w p q = record {
      shows = λ f s shown bare. shows-ext
          (λ y z. cond-twice (parts_to r c m y z) (in_rect (part_of r c (side_at m)) y z) (shade boxes x to y z) (f y z) ∙ ap (λ (b : Bool). cond b (shade boxes x to y z) (f y z)) (sym (any-to-more m _)))
          (q.shows _ (p.shows f s shown bare)
          (λ y z h. cond-true (parts_to r c m y z) h (shown y z h))
          (λ y z h. part-past (side_at m) y z h bare));
      same_size = q.same_size ∙ p.same_size;
    }

    -- what is left is the box's, and shown already
    pub parts_all : (u u' : List ℕ) → Partly field boxes x from to r (parts_to r c 4) u u' → Carved field boxes x from to r u u'
    parts_all u u' p = record {
      shows = λ f s shown bare. shows-ext (λ y z. one f shown y z (parts_to r c 4 y z) (in_rect r y z) refl refl) (p.shows f s shown bare);
      same_size = p.same_size;
    }
      where
        own : (y z : ℕ) → parts_to r c 4 y z ≡ false → in_rect r y z ≡ true → shade boxes x to y z ≡ true
        own y z e h = parts-rest boxes x r n (first.passes before) c c-is to before y z e h

        one : (f : Layer) → ((y z : ℕ) → shade boxes x to y z ≡ true → f y z ≡ true) → (y z : ℕ) (a b : Bool) → parts_to r c 4 y z ≡ a
            → in_rect r y z ≡ b → cond a (shade boxes x to y z) (f y z) ≡ cond b (shade boxes x to y z) (f y z)
        one f shown y z true true e h = refl
        one f shown y z true false e h = absurd (true≢false (sym e ∙ parts_out boxes x r n (first.passes before) c c-is y z h))
        one f shown y z false true e h = shown y z (own y z e h) ∙ sym (own y z e h)
        one f shown y z false false e h = refl
