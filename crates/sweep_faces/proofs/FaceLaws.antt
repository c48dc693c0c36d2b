-- The layers about a plane, face by face: the faces that end taken away, and those that begin put in.
use mathlib.Core.Path.{◌≡◌, refl, sym, ◌∙◌, ap, ap₂, subst}
use mathlib.Core.Logic.{◌≢◌}
use mathlib.Core.Bool.{Bool, true, false, cond, ◌&&◌, ◌||◌, or-false}
use mathlib.Core.List.{List}
use Prim.Native.Nat.{ℕ, zero, suc, ◌+◌, ◌<◌, ◌≤◌}
use native.Mathlib.Omega.{arith}
use native.Mathlib.Numerals.{add-one}
use lib.Dec.{leb, ltb, eqb}
use borrow.Author.Tests.{ltb-true, ltb-false, eqb-true, eqb-false, lt-ltb, le-ltb, le-leb, lt-leb, eq-eqb, ne_eqb}
use Rattle.ground.proofs.Conds.{cond-twice}
use Rattle.ground.proofs.AnyLaws.{any-to-none}
use Rattle.ground.specs.Numbers.{any_to}
use Rattle.lattice.specs.Boxes.{box_at}
use Rattle.sweep_image.specs.Images.{Layer, in_rect}
use Rattle.sweep_image.specs.declared.Rect.{Rect}
use Rattle.sweep_image.proofs.ImageLaws.{shows-ext}
use Rattle.sweep_overlaps.specs.Overlaps.{rect_of, shade_of, shade}
use Rattle.sweep_carving.specs.Carving.{replaced, Carved}
use Rattle.sweep_painting.specs.Painting.{Painted}
use Rattle.sweep_faces.specs.Layers.{About, touching, ending, released, Becomes}

-- ---- Bools
settled : (g s : Bool) → cond g s (s || g) ≡ s
settled true s = refl
settled false true = refl
settled false false = refl

split-either : (a b p q : Bool) → (a || b) ≡ p → (p && q) ≡ ((a && q) || (b && q))
split-either a b p q e = sym (ap (λ c. c && q) e) ∙ go a b q
  where
    go : (a b q : Bool) → ((a || b) && q) ≡ ((a && q) || (b && q))
    go true true true = refl
    go true true false = refl
    go true false true = refl
    go true false false = refl
    go false true true = refl
    go false true false = refl
    go false false true = refl
    go false false false = refl

swap_four : (a b c d : Bool) → ((a || b) || (c || d)) ≡ ((a || c) || (b || d))
swap_four true b true d = refl
swap_four true true false d = refl
swap_four true false false d = refl
swap_four false true true d = refl
swap_four false false true d = refl
swap_four false true false d = refl
swap_four false false false d = refl

-- ---- ends
reach-or-end : (x e : ℕ) → (ltb x e || eqb e x) ≡ leb x e
reach-or-end x e = go (ltb x e) refl (eqb e x) refl
  where
    go : (b : Bool) → ltb x e ≡ b → (c : Bool) → eqb e x ≡ c → (b || c) ≡ leb x e
    go true k c m = sym (le-leb x e (let h = ltb-true x e k in omega arith))
    go false k true m = sym (le-leb x e (let h = eqb-true e x m in omega arith))
    go false k false m = sym (lt-leb x e (let h = ltb-false x e k in let n : (e ≡ x → ⊥) = eqb-false e x m in omega arith))

module _ (boxes : List ℕ) (x : ℕ) (y z : ℕ) where
  abbrev face : ℕ → Bool
  face i = in_rect (rect_of (box_at boxes i)) y z

  -- the layer below the plane is that of the boxes that reach past it, and of those that end on it
  pub touching-split : (n : ℕ) → touching boxes x n y z ≡ (shade boxes x n y z || ending boxes x n y z)
  unfolding touching shade ending any_to
  touching-split zero = refl
  touching-split (suc n) =
      ap₂ ◌||◌ (touching-split n) (split-either (ltb x (box_at boxes n).x_end) (eqb (box_at boxes n).x_end x) (leb x (box_at boxes n).x_end) (face n) (reach-or-end x (box_at boxes n).x_end))
      ∙ swap_four (shade boxes x n y z) (ending boxes x n y z) (shade_of boxes x n y z) (eqb (box_at boxes n).x_end x && face n)

  ending-more : (q : ℕ) → (box_at boxes q).x_end ≡ x → ending boxes x (suc q) y z ≡ (ending boxes x q y z || face q)
  unfolding ending any_to
  ending-more q e = ap (λ b. ending boxes x q y z || (b && face q)) (eq-eqb (box_at boxes q).x_end x e)

  ending-same : (q : ℕ) → (box_at boxes q).x_end ≢ x → ending boxes x (suc q) y z ≡ ending boxes x q y z
  unfolding ending any_to
  ending-same q e = ap (λ b. ending boxes x q y z || (b && face q)) (ne_eqb (box_at boxes q).x_end x e) ∙ or-false (ending boxes x q y z)

  shade-more : (q : ℕ) → x < (box_at boxes q).x_end → shade boxes x (suc q) y z ≡ (shade boxes x q y z || face q)
  unfolding shade any_to
  shade-more q h = ap (λ b. shade boxes x q y z || (b && face q)) (lt-ltb x (box_at boxes q).x_end h)

  pub ending-none : (n : ℕ) → ((i : ℕ) → i < n → (box_at boxes i).x_end ≢ x) → ending boxes x n y z ≡ false
  unfolding ending
  ending-none n h = any-to-none n (λ i l. ap (λ b. b && face i) (ne_eqb (box_at boxes i).x_end x (h i l)))

  -- ---- a face that ends on the plane
  release-more : (old q : ℕ) → (box_at boxes q).x_end ≡ x
      → replaced (rect_of (box_at boxes q)) (shade boxes x old) (released boxes x old q) y z ≡ released boxes x old (q + 1) y z
  release-more old q e =
      cond-twice (ending boxes x q y z) (face q) (shade boxes x old y z) (touching boxes x old y z)
      ∙ ap (λ b. cond b (shade boxes x old y z) (touching boxes x old y z)) (sym (ending-more q e) ∙ ap (λ n. ending boxes x n y z) (sym (add-one q)))

  release-same : (old q : ℕ) → (box_at boxes q).x_end ≢ x → released boxes x old q y z ≡ released boxes x old (q + 1) y z
  release-same old q e = ap (λ b. cond b (shade boxes x old y z) (touching boxes x old y z)) (sym (ending-same q e) ∙ ap (λ n. ending boxes x n y z) (sym (add-one q)))

  release-done : (old : ℕ) → released boxes x old old y z ≡ shade boxes x old y z
  release-done old = ap (λ b. cond (ending boxes x old y z) (shade boxes x old y z) b) (touching-split old) ∙ settled (ending boxes x old y z) (shade boxes x old y z)

  release-keeps : (old q : ℕ) → shade boxes x old y z ≡ true → released boxes x old q y z ≡ true
  release-keeps old q e = go (ending boxes x q y z)
    where
      go : (b : Bool) → cond b (shade boxes x old y z) (touching boxes x old y z) ≡ true
      go true = e
      go false = touching-split old ∙ ap (λ b. b || ending boxes x old y z) e

  -- ---- a face that begins on it
  paint-more : (q : ℕ) → x < (box_at boxes q).x_end → (shade boxes x q y z || face q) ≡ shade boxes x (q + 1) y z
  paint-more q h = sym (shade-more q h) ∙ ap (λ n. shade boxes x n y z) (sym (add-one q))

  -- ---- boxes that end before the plane
  module _ {field from old n : ℕ} (a : About field boxes x from old n) where
    none_before : shade boxes x from y z ≡ false
    unfolding shade
    none_before = any-to-none from (λ i l. ap (λ b. b && face i) (le-ltb x (box_at boxes i).x_end (let h = a.passed i l in omega arith)))

    none-ends : ending boxes x from y z ≡ false
    unfolding ending
    none-ends = any-to-none from (λ i l. ap (λ b. b && face i) (ne_eqb (box_at boxes i).x_end x (λ e. let h = a.passed i l in omega arith)))

    release-none : touching boxes x old y z ≡ released boxes x old from y z
    release-none = sym (ap (λ b. cond b (shade boxes x old y z) (touching boxes x old y z)) none-ends)

-- ---- in the words of the contracts
module _ (field : ℕ) (boxes : List ℕ) (x from old n : ℕ) (a : About field boxes x from old n) where
  pub rect-in : (q : ℕ) (r : Rect) → q < n → r ≡ rect_of (box_at boxes q) → (r.high ≤ field) × (r.to ≤ field)
  rect-in q r l e = (subst (λ (s : Rect). s.high ≤ field) (sym e) (a.known.inside q l).y_in, subst (λ (s : Rect). s.to ≤ field) (sym e) (a.known.inside q l).z_in)

  pub released-face : (q : ℕ) (r : Rect) {u u' : List ℕ} → r ≡ rect_of (box_at boxes q) → (box_at boxes q).x_end ≡ x → Carved field boxes x from old r u u'
      → Becomes field (released boxes x old q) (released boxes x old (q + 1)) u u'
  released-face q r {u} {u'} er e k = record {
    shows = λ s. shows-ext (λ y z. release-more boxes x y z old q e)
        ((subst (λ (t : Rect). Carved field boxes x from old t u u') er k).shows (released boxes x old q) s
        (λ y z h. release-keeps boxes x y z old q h) (λ y z h. none_before boxes x y z a));
    same_size = k.same_size;
  }

  pub released-same : (q : ℕ) {u : List ℕ} → (box_at boxes q).x_end ≢ x → Becomes field (released boxes x old q) (released boxes x old (q + 1)) u u
  released-same q e = record { shows = shows-ext (λ y z. release-same boxes x y z old q e); same_size = refl }

  pub released-all : {u u' : List ℕ} → Becomes field (released boxes x old from) (released boxes x old old) u u' → Becomes field (touching boxes x old) (shade boxes x old) u u'
  released-all b = record {
    shows = λ s. shows-ext (λ y z. release-done boxes x y z old) (b.shows (shows-ext (λ y z. release-none boxes x y z a) s));
    same_size = b.same_size;
  }

  pub painted-face : (q : ℕ) (r : Rect) {u u' : List ℕ} → r ≡ rect_of (box_at boxes q) → old ≤ q → q < n → Painted field boxes x q (in_rect r) u u'
      → Becomes field (shade boxes x q) (shade boxes x (q + 1)) u u'
  painted-face q r {u} {u'} er l h k = record {
    shows = λ s. shows-ext (λ y z. paint-more boxes x y z q (let o = (a.known.inside q h).x_order in let m = a.begun q l h in omega arith))
        ((subst (λ (t : Rect). Painted field boxes x q (in_rect t) u u') er k).shows (shade boxes x q) s (λ y z e. e));
    same_size = k.same_size;
  }

pub becomes-none : {field : ℕ} {f : Layer} {u : List ℕ} → Becomes field f f u u
becomes-none = record { shows = λ s. s; same_size = refl }

pub becomes-more : {field : ℕ} {f g h : Layer} {u v w : List ℕ} → Becomes field f g u v → Becomes field g h v w → Becomes field f h u w
becomes-more a b = record { shows = λ s. b.shows (a.shows s); same_size = b.same_size ∙ a.same_size }
