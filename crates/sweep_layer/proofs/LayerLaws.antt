-- The layers about a plane are those of the boxes; and all boxes shown anew.
use mathlib.Core.Path.{◌≡◌, refl, sym, ◌∙◌, ap, subst}
use mathlib.Core.Logic.{◌≢◌}
use mathlib.Core.Bool.{Bool, true, false, cond, ◌&&◌, ◌||◌, or-false, and-false}
use mathlib.Core.List.{List}
use Prim.Native.Nat.{ℕ, suc, ◌<◌, ◌≤◌}
use native.Mathlib.Omega.{arith}
use lib.Dec.{T, leb, ltb, leb→le, le→leb, ltb→lt, lt→ltb}
use borrow.Author.Tests.{ltb-true, ltb-false, leb-false, lt-ltb, le-ltb}
use Rattle.ground.proofs.Bools.{is_false, and_intro, and-elim}
use Rattle.ground.proofs.AnyLaws.{any-to-ext, any-to-none, any-to-cut}
use Rattle.lattice.specs.Cells.{below}
use Rattle.lattice.specs.Boxes.{box_at, box_cells, BoxIn}
use Rattle.lattice.proofs.BoxLaws.{below-boxes}
use Rattle.sweep_image.specs.Images.{Turned, after, in_rect}
use Rattle.sweep_image.specs.declared.Rect.{Rect}
use Rattle.sweep_image.proofs.ImageLaws.{shows-ext}
use Rattle.sweep_overlaps.specs.Overlaps.{rect_of, shade_of, shade, shade_from}
use Rattle.sweep_carving.specs.Carving.{replaced}
use Rattle.sweep_faces.proofs.FaceLaws.{touching-split, ending-none}
use Rattle.sweep_faces.specs.Layers.{About, touching, ending, Becomes}

-- ---- all at once
module _ (boxes : List ℕ) (x y z : ℕ) {field from old n : ℕ} (a : About field boxes x from old n) where
  from_all : shade_from boxes x from n y z ≡ shade boxes x n y z
  unfolding shade_from shade
  from_all = any-to-ext n (λ i l. go i (leb from i) refl)
    where
      go : (i : ℕ) (b : Bool) → leb from i ≡ b → (b && shade_of boxes x i y z) ≡ shade_of boxes x i y z
      go i true e = refl
      go i false e = sym (ap (λ b. b && in_rect (rect_of (box_at boxes i)) y z) (le-ltb x (box_at boxes i).x_end (let h = a.passed i (leb-false from i e) in omega arith)))

-- ---- the rectangle of the whole field
abbrev pub whole_rect : ℕ → Rect
whole_rect field = record { low = 0; high = field; from = 0; to = field }

after-in : (a b m p : ℕ) → b ≤ m → T (after a b p) → T (after 0 m p)
after-in a b m p h t =
    let c = and-elim (ltb a p) (leb p b) t in
    and_intro (ltb 0 p) (leb p m) (lt→ltb 0 p (let k = ltb→lt a p c.0 in omega arith)) (le→leb p m (let k = leb→le p b c.1 in omega arith))

face-in : (field : ℕ) (boxes : List ℕ) (i y z : ℕ) → BoxIn field (box_at boxes i) → T (in_rect (rect_of (box_at boxes i)) y z) → T (in_rect (whole_rect field) y z)
face-in field boxes i y z b t =
    let r : Rect = rect_of (box_at boxes i) in
    let c = and-elim (after r.low r.high y) (after r.from r.to z) t in
    and_intro (after 0 field y) (after 0 field z) (after-in r.low r.high field y b.y_in c.0) (after-in r.from r.to field z b.z_in c.1)

module _ (field : ℕ) (boxes : List ℕ) (x y z : ℕ) {from old n : ℕ} (a : About field boxes x from old n) where
  no-face : in_rect (whole_rect field) y z ≡ false → (i : ℕ) → i < n → in_rect (rect_of (box_at boxes i)) y z ≡ false
  no-face e i l = is_false (in_rect (rect_of (box_at boxes i)) y z) (λ t. subst T e (face-in field boxes i y z (a.known.inside i l) t))

  renew-all : replaced (whole_rect field) (shade_from boxes x from n) (touching boxes x old) y z ≡ shade boxes x n y z
  unfolding touching shade
  renew-all = go (in_rect (whole_rect field) y z) refl
    where
      go : (b : Bool) → in_rect (whole_rect field) y z ≡ b → cond b (shade_from boxes x from n y z) (touching boxes x old y z) ≡ shade boxes x n y z
      go true e = from_all boxes x y z a
      go false e =
          any-to-none old (λ i l. ap (λ b. leb x (box_at boxes i).x_end && b) (no-face e i (let h = a.old_n in omega arith)) ∙ and-false (leb x (box_at boxes i).x_end))
          ∙ sym (any-to-none n (λ i l. ap (λ b. ltb x (box_at boxes i).x_end && b) (no-face e i l) ∙ and-false (ltb x (box_at boxes i).x_end)))

  -- ---- the layers of the solid
  pub below-touching : below (box_cells boxes n) x y z ≡ touching boxes x old y z
  unfolding touching
  below-touching =
      below-boxes boxes n x y z
      ∙ any-to-cut old n a.old_n (λ i l k. ap (λ b. (b && leb x (box_at boxes i).x_end) && in_rect (rect_of (box_at boxes i)) y z) (le-ltb (box_at boxes i).x x (let e = a.begun i l k in omega arith)))
      ∙ any-to-ext old (λ i l. ap (λ b. (b && leb x (box_at boxes i).x_end) && in_rect (rect_of (box_at boxes i)) y z) (lt-ltb (box_at boxes i).x x (a.before i l)))

  begins : (i : ℕ) → i < n → (box_at boxes i).x ≤ x
  begins i l = go (ltb i old) refl
    where
      go : (b : Bool) → ltb i old ≡ b → (box_at boxes i).x ≤ x
      go true e = let h = a.before i (ltb-true i old e) in omega arith
      go false e = let h = a.begun i (ltb-false i old e) l in omega arith

  pub below-shade : below (box_cells boxes n) (suc x) y z ≡ shade boxes x n y z
  unfolding shade
  below-shade =
      below-boxes boxes n (suc x) y z
      ∙ any-to-ext n (λ i l. ap (λ b. (b && leb (suc x) (box_at boxes i).x_end) && in_rect (rect_of (box_at boxes i)) y z) (lt-ltb (box_at boxes i).x (suc x) (let h = begins i l in omega arith)))

  -- where no box begins or ends on the plane, the layers are the same
  pub bare-plane : old ≡ n → ((i : ℕ) → from ≤ i → i < old → (box_at boxes i).x_end ≢ x) → touching boxes x old y z ≡ shade boxes x n y z
  bare-plane e h = touching-split boxes x y z old ∙ ap (λ b. shade boxes x old y z || b) (none_at_all) ∙ or-false (shade boxes x old y z) ∙ ap (λ m. shade boxes x m y z) e
    where
      none_at_all : ending boxes x old y z ≡ false
      none_at_all = ending-none boxes x y z old (λ i l. go i l (ltb i from) refl)
        where
          go : (i : ℕ) → i < old → (b : Bool) → ltb i from ≡ b → (box_at boxes i).x_end ≢ x
          go i l true k = λ e. let m = a.passed i (ltb-true i from k) in omega arith
          go i l false k = h i (ltb-false i from k) l

-- ---- in the words of the contracts
module _ (field : ℕ) (boxes : List ℕ) (x from old n : ℕ) (a : About field boxes x from old n) where
  pub all-anew : {u u' : List ℕ} → Turned field (replaced (whole_rect field) (shade_from boxes x from n)) u u' → Becomes field (touching boxes x old) (shade boxes x n) u u'
  all-anew t = record { shows = λ s. shows-ext (λ y z. renew-all field boxes x y z a) (t.shows (touching boxes x old) s); same_size = t.same_size }
