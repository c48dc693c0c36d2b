-- The boxes that a list has; and the four parts of a rectangle around what a box that meets it has of it.
use mathlib.Core.Path.{◌≡◌, sym, ◌∙◌}
use mathlib.Core.Bool.{true, false, and-false, true≢false}
use mathlib.Core.List.{List, [], ◌∷◌}
use Prim.Native.Nat.{ℕ, ◌≤◌, ◌<◌}
use native.Mathlib.Omega.{arith}
use lib.Dec.{ltb}
use lib.ListN.{get_or}
use borrow.Author.Tests.{lt-ltb}
use Rattle.ground.specs.Numbers.{any_to}
use Rattle.ground.proofs.AnyLaws.{any-to-false, any-to-none}
use Rattle.lattice.specs.Boxes.{Box, BoxIn, box_at}
use Rattle.sweep_image.specs.Images.{Layer, RectIn, in_rect}
use Rattle.sweep_image.specs.Rects.{shared_rect, part_of}
use Rattle.sweep_image.specs.declared.Rect.{Rect}
use Rattle.sweep_image.specs.declared.Side.{Side}
use Rattle.sweep_image.specs.declared.Side.TheVariants.{Below, Above, Before, After}
use Rattle.sweep_overlaps.specs.Overlaps.{rect_of, shade_of, shade, FirstBoxes, meets_rect}
use Rattle.sweep_overlaps.proofs.RectLaws.{in-has, has_in, has-not, Meets, met, part-fits, part-has, part-bare, part-rest}
use Rattle.sweep_overlaps.proofs.ShadeLaws.{shade-some}

-- the first boxes of those that a list has
pub boxes-less : {field : ℕ} {boxes : List ℕ} {n : ℕ} (m : ℕ) → m ≤ n → FirstBoxes field boxes n → FirstBoxes field boxes m
boxes-less m h k = record { there = omega (arith, h, k.there); inside = λ i l. k.inside i (omega (arith, h, l)) }

-- in a field of side 1024, as in a smaller one
pub boxes-small : {field : ℕ} {boxes : List ℕ} {n : ℕ} → field ≤ 1024 → FirstBoxes field boxes n → FirstBoxes 1024 boxes n
boxes-small h k = record { there = k.there; inside = λ i l. box-small h (k.inside i l) }
  where
    box-small : {field : ℕ} {t : Box} → field ≤ 1024 → BoxIn field t → BoxIn 1024 t
    box-small h t = record {
      x_order = t.x_order;
      x_in = omega (arith, h, t.x_in);
      y_order = t.y_order;
      y_in = omega (arith, h, t.y_in);
      z_order = t.z_order;
      z_in = omega (arith, h, t.z_in);
    }

pub rect-small : {field : ℕ} {r : Rect} → field ≤ 1024 → RectIn field r → RectIn 1024 r
rect-small h r = record { y_order = r.y_order; y_in = omega (arith, h, r.y_in); z_order = r.z_order; z_in = omega (arith, h, r.z_in) }

-- ---- around a box that meets a rectangle

-- the sides in their order
abbrev pub side_at : ℕ → Side
side_at n = get_or (Below ∷ Above ∷ Before ∷ After ∷ []) n Below

-- the cells of the first parts around c
abbrev pub parts_to : Rect → Rect → ℕ → Layer
parts_to r c sides y z = any_to sides λ n. in_rect (part_of r c (side_at n)) y z

module _ (boxes : List ℕ) (x : ℕ) (r : Rect) (n : ℕ) (found : meets_rect (box_at boxes n) x r ≡ true) (c : Rect) (c-is : c ≡ shared_rect r (rect_of (box_at boxes n))) where
  meeting : Meets (box_at boxes n) x r
  meeting = met (box_at boxes n) x r found

  -- a part stays in the field
  pub part-ready : (field : ℕ) → RectIn field r → (side : Side) {p : Rect} → p ≡ part_of r c side → (p.high ≤ field) × (p.to ≤ field)
  part-ready field h side is = rw (is, c-is) (part-fits r (box_at boxes n) x meeting field h side)

  -- it lies in the rectangle, and the box has no cell of it
  pub part_in : (side : Side) (y z : ℕ) → in_rect (part_of r c side) y z ≡ true → in_rect r y z ≡ true
  part_in side y z h = has_in r y z (part-has r (box_at boxes n) x meeting y z side (rw c-is at (in-has (part_of r c side) y z h)))

  pub part_out : (side : Side) (y z : ℕ) → in_rect (part_of r c side) y z ≡ true → shade_of boxes x n y z ≡ false
  part_out side y z h = rw (has-not (rect_of (box_at boxes n)) y z (part-bare r (box_at boxes n) x meeting y z side (rw c-is at (in-has (part_of r c side) y z h)))) (and-false (ltb x (box_at boxes n).x_end))

  pub parts_out : (y z : ℕ) → in_rect r y z ≡ false → parts_to r c 4 y z ≡ false
  parts_out y z h = any-to-none 4 λ n l. has-not (part_of r c (side_at n)) y z λ k. true≢false (sym (part_in (side_at n) y z (has_in (part_of r c (side_at n)) y z k)) ∙ h)

  -- what is in none of the four is the box's
  part-none : (y z : ℕ) → parts_to r c 4 y z ≡ false → (side : Side) → in_rect (part_of r c side) y z ≡ false
  part-none y z e Below = any-to-false 4 (λ n. in_rect (part_of r c (side_at n)) y z) e 0 (omega arith)
  part-none y z e Above = any-to-false 4 (λ n. in_rect (part_of r c (side_at n)) y z) e 1 (omega arith)
  part-none y z e Before = any-to-false 4 (λ n. in_rect (part_of r c (side_at n)) y z) e 2 (omega arith)
  part-none y z e After = any-to-false 4 (λ n. in_rect (part_of r c (side_at n)) y z) e 3 (omega arith)

  pub parts-rest : (to : ℕ) → n < to → (y z : ℕ) → parts_to r c 4 y z ≡ false → in_rect r y z ≡ true → shade boxes x to y z ≡ true
  parts-rest to before y z e h =
      shade-some boxes x y z to n before
      (rw (lt-ltb x (box_at boxes n).x_end meeting.past) (has_in (rect_of (box_at boxes n)) y z (part-rest r (box_at boxes n) x meeting y z (in-has r y z h) λ side. rw c-is at (part-none y z e side))))
