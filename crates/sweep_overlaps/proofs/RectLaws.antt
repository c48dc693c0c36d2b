-- The cells of a rectangle, as numbers between bounds: those that it shares with another, and the four parts around these.
use mathlib.Core.Path.{◌≡◌, refl, sym, ◌∙◌}
use mathlib.Core.Bool.{Bool, true, false, ◌&&◌, true≢false}
use Prim.Native.Nat.{ℕ, ◌≤◌, ◌<◌, min, max}
use native.Mathlib.Omega.{arith}
use lib.Dec.{leb, ltb}
use borrow.Author.Tests.{le-leb, lt-leb, lt-ltb, leb-true, leb-false, ltb-true, ltb-false}
use Rattle.ground.proofs.Bools.{and-true, or-false, not_so}
use Rattle.lattice.specs.Boxes.{Box, BoxIn}
use Rattle.sweep_image.specs.Images.{RectIn, after, in_rect}
use Rattle.sweep_image.specs.Rects.{empty_rect, shared_rect, part_of}
use Rattle.sweep_image.specs.declared.Rect.{Rect}
use Rattle.sweep_image.specs.declared.Side.{Side}
use Rattle.sweep_image.specs.declared.Side.TheVariants.{Below, Above, Before, After}
use Rattle.sweep_overlaps.specs.Overlaps.{rect_of, overlaps_rect, meets_rect}

-- ---- a cell of a rectangle

pub record Has (r : Rect) (y z : ℕ) : Type 0 where
  pub low : r.low < y
  pub high : y ≤ r.high
  pub from : r.from < z
  pub to : z ≤ r.to

pub in-has : (r : Rect) (y z : ℕ) → in_rect r y z ≡ true → Has r y z
in-has r y z h =
    let yz = and-true (after r.low r.high y) (after r.from r.to z) h in
    let on-y = and-true (ltb r.low y) (leb y r.high) yz.0 in
    let on-z = and-true (ltb r.from z) (leb z r.to) yz.1 in
    record {
      low = ltb-true r.low y on-y.0;
      high = leb-true y r.high on-y.1;
      from = ltb-true r.from z on-z.0;
      to = leb-true z r.to on-z.1;
    }

pub has_in : (r : Rect) (y z : ℕ) → Has r y z → in_rect r y z ≡ true
has_in r y z h =
    rw (lt-ltb r.low y h.low, le-leb y r.high h.high, lt-ltb r.from z h.from, le-leb z r.to h.to)

pub has-not : (r : Rect) (y z : ℕ) → (Has r y z → ⊥) → in_rect r y z ≡ false
has-not r y z h = not_so (in_rect r y z) λ e. h (in-has r y z e)

-- ---- a rectangle without cells

module _ (r : Rect) where
  pub empty-bare : empty_rect r ≡ true → (y z : ℕ) → in_rect r y z ≡ false
  empty-bare e y z = has-not r y z λ h. true≢false (sym e ∙ rw (lt-leb r.high r.low (omega (arith, h.low, h.high)), lt-leb r.to r.from (omega (arith, h.from, h.to))))

  -- one with cells, in a field
  pub cells_in : (n : ℕ) → empty_rect r ≡ false → r.high ≤ n → r.to ≤ n → RectIn n r
  cells_in n e y_in z_in =
      let yz = or-false (leb r.high r.low) (leb r.to r.from) e in
      record { y_order = leb-false r.high r.low yz.0; y_in = y_in; z_order = leb-false r.to r.from yz.1; z_in = z_in }

-- ---- a box that meets a rectangle

-- what they say of numbers
pub record Meets (t : Box) (x : ℕ) (r : Rect) : Type 0 where
  pub past : x < t.x_end
  pub y-low : t.y < r.high
  pub y-high : r.low < t.y_end
  pub z-low : t.z < r.to
  pub z-high : r.from < t.z_end

pub met : (t : Box) (x : ℕ) (r : Rect) → meets_rect t x r ≡ true → Meets t x r
unfolding meets_rect overlaps_rect
met t x r h =
    let a = and-true (overlaps_rect t r) (ltb x t.x_end) h in
    let b = and-true (ltb t.y r.high && ltb r.low t.y_end) (ltb t.z r.to && ltb r.from t.z_end) a.0 in
    let c = and-true (ltb t.y r.high) (ltb r.low t.y_end) b.0 in
    let d = and-true (ltb t.z r.to) (ltb r.from t.z_end) b.1 in
    record {
      past = ltb-true x t.x_end a.1;
      y-low = ltb-true t.y r.high c.0;
      y-high = ltb-true r.low t.y_end c.1;
      z-low = ltb-true t.z r.to d.0;
      z-high = ltb-true r.from t.z_end d.1;
    }

-- a box past the plane that has a cell of the rectangle meets it
pub has-meets : (t : Box) (x : ℕ) (r : Rect) (y z : ℕ) → Has r y z → x < t.x_end → Has (rect_of t) y z → meets_rect t x r ≡ true
unfolding meets_rect overlaps_rect
has-meets t x r y z h past k =
    let l : t.y < y = k.low in
    let l' : y ≤ t.y_end = k.high in
    let m : t.z < z = k.from in
    let m' : z ≤ t.z_end = k.to in
    rw (
      lt-ltb t.y r.high (omega (arith, h.high, l)),
      lt-ltb r.low t.y_end (omega (arith, h.low, l')),
      lt-ltb t.z r.to (omega (arith, h.to, m)),
      lt-ltb r.from t.z_end (omega (arith, h.from, m')),
      lt-ltb x t.x_end past,
    )

-- ---- the cells that two rectangles share

module _ (r s : Rect) (y z : ℕ) where
  shared_has : Has (shared_rect r s) y z → Has r y z × Has s y z
  shared_has h =
      let low : max r.low s.low < y = h.low in
      let high : y ≤ min r.high s.high = h.high in
      let from : max r.from s.from < z = h.from in
      let to : z ≤ min r.to s.to = h.to in (
        record { low = omega (arith, low); high = omega (arith, high); from = omega (arith, from); to = omega (arith, to) },
        record { low = omega (arith, low); high = omega (arith, high); from = omega (arith, from); to = omega (arith, to) },
      )

  has-shared : Has r y z → Has s y z → Has (shared_rect r s) y z
  has-shared h k =
      record {
        low = omega (arith, h.low, k.low);
        high = omega (arith, h.high, k.high);
        from = omega (arith, h.from, k.from);
        to = omega (arith, h.to, k.to);
      }

  pub shared-in : in_rect (shared_rect r s) y z ≡ in_rect r y z && in_rect s y z
  shared-in = go (in_rect r y z) (in_rect s y z) refl refl
    where
      go : (a b : Bool) → in_rect r y z ≡ a → in_rect s y z ≡ b → in_rect (shared_rect r s) y z ≡ a && b
      go true true e k = has_in (shared_rect r s) y z (has-shared (in-has r y z e) (in-has s y z k))
      go true false e k = has-not (shared_rect r s) y z λ h. true≢false (sym (has_in s y z (shared_has h).1) ∙ k)
      go false b e k = has-not (shared_rect r s) y z λ h. true≢false (sym (has_in r y z (shared_has h).0) ∙ e)

pub shared-fits : (n : ℕ) (r : Rect) (t : Box) (x : ℕ) → RectIn n r → BoxIn n t → Meets t x r → RectIn n (shared_rect r (rect_of t))
shared-fits n r t x h k m =
    record {
      y_order = omega (arith, h.y_order, k.y_order, m.y-low, m.y-high);
      y_in = omega (arith, h.y_in);
      z_order = omega (arith, h.z_order, k.z_order, m.z-low, m.z-high);
      z_in = omega (arith, h.z_in);
    }

-- ---- the four parts around them

module _ (r : Rect) (t : Box) (x : ℕ) (m : Meets t x r) where
  abbrev core : Rect
  core = shared_rect r (rect_of t)

  -- they stay in a field, as the rectangle does
  pub part-fits : (n : ℕ) → RectIn n r → (side : Side) → ((part_of r core side).high ≤ n) × ((part_of r core side).to ≤ n)
  part-fits n h Below = (omega (arith, h.y_order, h.y_in, m.y-low), h.z_in)
  part-fits n h Above = (h.y_in, h.z_in)
  part-fits n h Before = (omega (arith, h.y_in), omega (arith, h.z_order, h.z_in, m.z-low))
  part-fits n h After = (omega (arith, h.y_in), h.z_in)

  module _ (y z : ℕ) where
    -- their cells are cells of the rectangle, and not of the box
    pub part-has : (side : Side) → Has (part_of r core side) y z → Has r y z
    part-has Below h =
        let high : y ≤ max r.low t.y = h.high in
        let low : r.low < y = h.low in
        record { low = low; high = omega (arith, high, low, m.y-low); from = h.from; to = h.to }
    part-has Above h =
        let low : min r.high t.y_end < y = h.low in
        let high : y ≤ r.high = h.high in
        record { low = omega (arith, low, high, m.y-high); high = high; from = h.from; to = h.to }
    part-has Before h =
        let low : max r.low t.y < y = h.low in
        let high : y ≤ min r.high t.y_end = h.high in
        let from : r.from < z = h.from in
        let to : z ≤ max r.from t.z = h.to in
        record { low = omega (arith, low); high = omega (arith, high); from = from; to = omega (arith, from, to, m.z-low) }
    part-has After h =
        let low : max r.low t.y < y = h.low in
        let high : y ≤ min r.high t.y_end = h.high in
        let from : min r.to t.z_end < z = h.from in
        let to : z ≤ r.to = h.to in
        record { low = omega (arith, low); high = omega (arith, high); from = omega (arith, from, to, m.z-high); to = to }

    pub part-bare : (side : Side) → Has (part_of r core side) y z → Has (rect_of t) y z → ⊥
    part-bare Below h k =
        let high : y ≤ max r.low t.y = h.high in
        let low : r.low < y = h.low in
        let l : t.y < y = k.low in
        omega (arith, high, low, l)
    part-bare Above h k =
        let low : min r.high t.y_end < y = h.low in
        let high : y ≤ r.high = h.high in
        let l : y ≤ t.y_end = k.high in
        omega (arith, high, low, l)
    part-bare Before h k =
        let from : r.from < z = h.from in
        let to : z ≤ max r.from t.z = h.to in
        let l : t.z < z = k.from in
        omega (arith, from, to, l)
    part-bare After h k =
        let from : min r.to t.z_end < z = h.from in
        let to : z ≤ r.to = h.to in
        let l : z ≤ t.z_end = k.to in
        omega (arith, from, to, l)

    -- and what is in none of the four is in the box
    pub part-rest : Has r y z → ((side : Side) → in_rect (part_of r core side) y z ≡ false) → Has (rect_of t) y z
    part-rest h none = on-y (leb y t.y) (ltb t.y_end y) refl refl
      where
        out : (side : Side) → Has (part_of r core side) y z → ⊥
        out side k = true≢false (sym (has_in (part_of r core side) y z k) ∙ none side)

        on-z : t.y < y → y ≤ t.y_end → (a b : Bool) → leb z t.z ≡ a → ltb t.z_end z ≡ b → Has (rect_of t) y z
        on-z l l' true b e k =
            absurd (out Before (record { low = omega (arith, l, h.low); high = omega (arith, l', h.high); from = h.from; to = omega (arith, leb-true z t.z e) }))
        on-z l l' false true e k =
            absurd (out After (record { low = omega (arith, l, h.low); high = omega (arith, l', h.high); from = omega (arith, ltb-true t.z_end z k); to = h.to }))
        on-z l l' false false e k =
            record { low = l; high = l'; from = leb-false z t.z e; to = ltb-false t.z_end z k }

        on-y : (a b : Bool) → leb y t.y ≡ a → ltb t.y_end y ≡ b → Has (rect_of t) y z
        on-y true b e k =
            absurd (out Below (record { low = h.low; high = omega (arith, leb-true y t.y e); from = h.from; to = h.to }))
        on-y false true e k =
            absurd (out Above (record { low = omega (arith, ltb-true t.y_end y k); high = h.high; from = h.from; to = h.to }))
        on-y false false e k =
            on-z (leb-false y t.y e) (ltb-false t.y_end y k) (leb z t.z) (ltb t.z_end z) refl refl
