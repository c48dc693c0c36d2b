-- Plane after plane, all planes have all corners.
use mathlib.Core.Path.{◌≡◌, refl, sym, ◌∙◌, ap, ap₂, subst, fun_ext}
use mathlib.Core.Bool.{Bool, true, false, cond, ◌&&◌}
use mathlib.Core.List.{List, [], ◌∷◌, ◌++◌}
use Prim.Native.Nat.{ℕ, suc, ◌+◌, ◌*◌, ◌<◌, ◌≤◌}
use native.Mathlib.Omega.{arith}
use native.Mathlib.Numerals.{add-one}
use lib.Dec.{leb, ltb}
use lib.ListN.{get_or}
use borrow.Author.Tests.{ltb-true, ltb-false, le-ltb, leb-false}
use Rattle.ground.specs.FirstPlace.{FirstPlace}
use Rattle.ground.proofs.AnyLaws.{any-to-cut}
use Rattle.ground.proofs.JoinLaws.{join-ext}
use Rattle.ground.specs.Numbers.{any_to}
use Rattle.ground.specs.Sums.{join}
use Rattle.lattice.specs.Cells.{Cells, below, up, plane_points}
use Rattle.lattice.specs.Pattern.{Pattern, around, byte, corner}
use Rattle.lattice.specs.Listing.{here, corners}
use Rattle.lattice.specs.Boxes.{box_at, box_cells}
use Rattle.lattice.proofs.BoxLaws.{below-boxes}
use Rattle.lattice_sums.specs.CornerSums.{Room, sums_of}
use Rattle.lattice_sums.specs.declared.sums.CornerSums.{CornerSums}
use Rattle.lattice_sums.proofs.CornerSumLaws.{no_room, room-more}
use Rattle.sweep_image.specs.Images.{in_rect}
use Rattle.sweep_image.proofs.ImageLaws.{shows-ext}
use Rattle.sweep_overlaps.specs.Overlaps.{rect_of, shade}
use Rattle.sweep_faces.specs.Layers.{About, touching}
use Rattle.sweep_tally.specs.Found.{Found, state, found}
use Rattle.sweep_tally.proofs.FoundLaws.{found-append}
use Rattle.sweep_points.specs.Points.{plane_at}
use Rattle.sweep_plane.specs.Plane.{Both, PlaneOut, EndsOn}
use Rattle.sweep_order.specs.Order.{Given, begins_past, lasts_to, EndsRow}
use Rattle.sweep_planes.specs.Planes.{Before, corners_below, AllFound}

planes-more : (n x : ℕ) (s : Cells) → corners_below n (x + 1) s ≡ corners_below n x s ++ plane_at n x s
unfolding corners_below join
planes-more n x s = rw (add-one x)

-- what reaches past a plane touches the next one
shade-touching : (boxes : List ℕ) (x n y z : ℕ) → shade boxes x n y z ≡ touching boxes (x + 1) n y z
unfolding shade touching
shade-touching boxes x n y z = ap (λ k. any_to n (λ i. leb k (box_at boxes i).x_end && in_rect (rect_of (box_at boxes i)) y z)) (sym (add-one x))

-- ---- the boxes about a plane
module _ (field : ℕ) (boxes : List ℕ) (count : ℕ) (g : Given field boxes count) where
  pub about : (x from old r n : ℕ) → Before boxes count x from old → FirstPlace (lasts_to boxes x) from old r → FirstPlace (begins_past boxes x) old count n → About field boxes x r old n
  about x from old r n b p f = record {
    known = record { there = omega (arith, g.there, f.within); inside = λ i l. g.boxes_in.inside i (omega (arith, f.within)) };
    from_old = p.within;
    old_n = f.onward;
    passed = λ i l. go i l (ltb i from) refl;
    before = b.begun;
    begun = λ i l h. let c = b.later i l (omega (arith, f.within)) in let d = ltb-false x (box_at boxes i).x (f.earlier i l h) in omega arith;
  }
    where
      go : (i : ℕ) → i < r → (t : Bool) → ltb i from ≡ t → (box_at boxes i).x_end < x
      go i l true e = b.passed i (ltb-true i from e)
      go i l false e = leb-false x (box_at boxes i).x_end (p.earlier i (ltb-false i from e) l)

  -- all boxes from the first that begins past the plane do
  past-on : (x old n : ℕ) → FirstPlace (begins_past boxes x) old count n → (i : ℕ) → n ≤ i → i < count → x < (box_at boxes i).x
  past-on x old n f i l h = let a = ltb-true x (box_at boxes n).x (f.passes (omega arith)) in let b = g.boxes_in.rising n i l h in omega arith

  pub before_more : (x from old r n : ℕ) → Before boxes count x from old → FirstPlace (lasts_to boxes x) from old r → FirstPlace (begins_past boxes x) old count n → Before boxes count (x + 1) r n
  before_more x from old r n b p f =
      let a : About field boxes x r old n = about x from old r n b p f in
      record {
        from_old = omega (arith, p.within, f.onward);
        old_count = f.within;
        passed = λ i l. let h = a.passed i l in omega arith;
        begun = λ i l. go i l (ltb i old) refl;
        later = λ i l h. let c = past-on x old n f i l h in omega arith;
      }
    where
      go : (i : ℕ) → i < n → (t : Bool) → ltb i old ≡ t → (box_at boxes i).x < x + 1
      go i l true e = let h = b.begun i (ltb-true i old e) in omega arith
      go i l false e = let h = ltb-false x (box_at boxes i).x (f.earlier i (ltb-false i old e) l) in omega arith

  -- the boxes that begin past the plane have no cell about it
  below-same : (x old n : ℕ) → FirstPlace (begins_past boxes x) old count n → (p : ℕ) → p ≤ suc x → (y z : ℕ) → below (box_cells boxes n) p y z ≡ below (box_cells boxes count) p y z
  below-same x old n f p h y z =
      below-boxes boxes n p y z
      ∙ sym (any-to-cut n count f.within (λ i l k. ap (λ b. (b && leb p (box_at boxes i).x_end) && in_rect (rect_of (box_at boxes i)) y z) (le-ltb (box_at boxes i).x p (let c = past-on x old n f i l k in omega arith))))
      ∙ sym (below-boxes boxes count p y z)

  around-same : (x old n : ℕ) → FirstPlace (begins_past boxes x) old count n → (y z : ℕ) → around (box_cells boxes n) x y z ≡ around (box_cells boxes count) x y z
  around-same x old n f y z = fun_ext λ a. fun_ext λ b. fun_ext λ c. go a (up b y) (up c z)
    where
      go : (a : Bool) (y z : ℕ) → below (box_cells boxes n) (up a x) y z ≡ below (box_cells boxes count) (up a x) y z
      go true y z = below-same x old n f (suc x) (omega arith) y z
      go false y z = below-same x old n f x (omega arith) y z

  plane-same : (x old n : ℕ) → FirstPlace (begins_past boxes x) old count n → plane_at field x (box_cells boxes n) ≡ plane_at field x (box_cells boxes count)
  unfolding plane_at here
  plane-same x old n f = join-ext (suc field) (λ y. join-ext (suc field) (λ z. ap (λ (p : Pattern). cond (corner p) (record { x = x; y = y; z = z; pattern = byte p } ∷ []) []) (around-same x old n f y z)))

  pub plane-more : (x old n : ℕ) → FirstPlace (begins_past boxes x) old count n → (f : Found) {g h : Found} → g ≡ found f (corners_below field x (box_cells boxes count)) → PlaneOut field boxes x n g h
      → h ≡ found f (corners_below field (x + 1) (box_cells boxes count))
  plane-more x old n k f {g} {h} e p =
      p.is ∙ ap₂ found e (plane-same x old n k)
      ∙ sym (found-append f (corners_below field x (box_cells boxes count)) (plane_at field x (box_cells boxes count)))
      ∙ ap (found f) (sym (planes-more field x (box_cells boxes count)))

-- ---- room
pub room-none : {t : CornerSums} → t ≡ sums_of [] → Room t (0 * plane_points 1024)
room-none {t} e = subst (λ (s : CornerSums). Room s 0) (sym e) no_room

pub room_next : (x : ℕ) {f g : Found} {field n : ℕ} {boxes : List ℕ} → Room f.sums (x * plane_points 1024) → PlaneOut field boxes x n f g → Room g.sums ((x + 1) * plane_points 1024)
room_next x {f} {g} r p = room-more g.sums (f.sums.corners + plane_points 1024) ((x + 1) * plane_points 1024) (omega (arith, r.few)) p.room

-- ---- images
pub both-more : (boxes : List ℕ) (x n : ℕ) {field : ℕ} {l u names : List ℕ} → Both field (shade boxes x n) l u names → Both field (touching boxes (x + 1) n) l u names
both-more boxes x n b = record { lent = b.lent; lower = shows-ext same b.lower; upper = shows-ext same b.upper }
  where
    same : (y z : ℕ) → shade boxes x n y z ≡ touching boxes (x + 1) n y z
    same y z = shade-touching boxes x n y z

-- ---- the first plane, and all planes
pub before-none : (boxes : List ℕ) (count : ℕ) → Before boxes count 0 0 0
before-none boxes count = record { from_old = omega arith; old_count = omega arith; passed = λ i l. absurd (omega arith); begun = λ i l. absurd (omega arith); later = λ i l h. omega arith }

pub planes-none : (n : ℕ) (s : Cells) (f : Found) → f ≡ found f (corners_below n 0 s)
unfolding corners_below join found
planes-none n s f = refl

planes-all : (n : ℕ) (s : Cells) → corners_below n (n + 1) s ≡ corners n s
unfolding corners_below plane_at corners
planes-all n s = ap (λ k. corners_below n k s) (add-one n)

pub all_found : (n k : ℕ) (s : Cells) → k ≡ n + 1 → (b : List ℕ) {t₀ r : CornerSums} {b' : List ℕ} → t₀ ≡ sums_of [] → state r b' ≡ found (state t₀ b) (corners_below n k s) → AllFound n s b r b'
all_found n k s e b {t₀} h q = q ∙ ap (λ j. found (state t₀ b) (corners_below n j s)) e ∙ ap (found (state t₀ b)) (planes-all n s) ∙ ap (λ (t : CornerSums). found (state t b) (corners n s)) h

-- ---- the ends on a plane
pub ends_on : (field : ℕ) (boxes : List ℕ) (count : ℕ) → Given field boxes count → (x old : ℕ) (row : List ℕ) {e : ℕ} → e ≡ get_or row x 0
    → old ≤ count → EndsRow boxes count row → EndsOn boxes x old e
ends_on field boxes count g x old row m h r =
    rw m (record { few = omega (arith, r.few x, g.few); no_end = λ z i l. r.no_end x z i (omega arith) })
