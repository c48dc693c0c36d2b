-- The bits that name the corners of a column, the room that they take, and one corner more.
use mathlib.Core.Path.{◌≡◌, refl, sym, ◌∙◌, ap}
use mathlib.Core.Bool.{Bool, true, false, cond, ◌&&◌, false≢true}
use mathlib.Core.List.{[], ◌∷◌}
use Prim.Native.Nat.{ℕ, ◌+◌, ◌-◌, ◌*◌, ◌<◌, ◌≤◌}
use native.Mathlib.Omega.{arith}
use lib.Dec.{ltb}
use borrow.Author.Tests.{ltb-true, lt-ltb}
use Rattle.ground.specs.Sums.{join}
use Rattle.lattice.specs.Axes.{x-axis}
use Rattle.lattice.specs.Cells.{up, line_points, field_points}
use Rattle.lattice.specs.Pattern.{byte, corner}
use Rattle.lattice.proofs.PatternLaws.{still-no-corner}
use Rattle.lattice_sums.specs.CornerSums.{RoomFor}
use Rattle.sweep_words.specs.Words.{bit_at, word_of, pattern_of, Lowest, WithoutLowest}
use Rattle.sweep_tally.specs.Found.{corner_of, Found, meet, found}
use Rattle.sweep_tally.proofs.FoundLaws.{found-one}
use Rattle.sweep_columns.specs.Columns.{corner_at, column_corners, Inside}
use Rattle.sweep_columns.proofs.Joins.{join-quiet}
use Rattle.sweep_columns.proofs.Takes.{Takes, takes-join, takes-point, room-left}
use Rattle.sweep_columns.proofs.Visits.{Names, Visited, next-set, next-in, visit-to, visit-more}

-- ---- the corners of a column
module _ (x y k l₀ l₁ u₀ u₁ : ℕ) where
  corner-none : (b : ℕ) → corner (pattern_of l₀ l₁ u₀ u₁ b) ≡ false → corner_at x y k l₀ l₁ u₀ u₁ b ≡ []
  unfolding corner_at
  corner-none b e = ap (λ (t : Bool). cond t (corner_of x y (63 * k + b) (byte (pattern_of l₀ l₁ u₀ u₁ b)) ∷ []) []) e

  -- the corner at a place, as it is met
  corner-met : (b : ℕ) {p : ℕ} (g : Found) {h : Found} → corner (pattern_of l₀ l₁ u₀ u₁ b) ≡ true → p ≡ byte (pattern_of l₀ l₁ u₀ u₁ b)
      → h ≡ meet g (corner_of x y (63 * k + b) p) → h ≡ found g (corner_at x y k l₀ l₁ u₀ u₁ b)
  unfolding corner_at
  corner-met b {p} g {h} c q e =
      e ∙ ap (λ (i : ℕ). meet g (corner_of x y (63 * k + b) i)) q ∙ sym (found-one g (corner_of x y (63 * k + b) (byte (pattern_of l₀ l₁ u₀ u₁ b))))
      ∙ ap (λ (t : Bool). found g (cond t (corner_of x y (63 * k + b) (byte (pattern_of l₀ l₁ u₀ u₁ b)) ∷ []) [])) (sym c)

  module _ (m : ℕ) (w : (b : ℕ) → bit_at m b ≡ (ltb b 63 && corner (pattern_of l₀ l₁ u₀ u₁ b))) where
    named-corner : (b : ℕ) → bit_at m b ≡ true → (b < 63) × (corner (pattern_of l₀ l₁ u₀ u₁ b) ≡ true)
    named-corner b e = go (ltb b 63) refl (sym (w b) ∙ e)
      where
        go : (t : Bool) → ltb b 63 ≡ t → (t && corner (pattern_of l₀ l₁ u₀ u₁ b)) ≡ true
            → (b < 63) × (corner (pattern_of l₀ l₁ u₀ u₁ b) ≡ true)
        go true f g = (ltb-true b 63 f, g)
        go false f g = absurd (false≢true g)

    pub names-corners : Names 63 m (corner_at x y k l₀ l₁ u₀ u₁)
    names-corners = record {
      few = λ b e. (named-corner b e).0;
      quiet = λ b h e. corner-none b (ap (λ (t : Bool). t && corner (pattern_of l₀ l₁ u₀ u₁ b)) (sym (lt-ltb b 63 h)) ∙ sym (w b) ∙ e);
    }

  -- where the layers are the same there is none
  pub quiet-words : l₀ ≡ u₀ → l₁ ≡ u₁ → column_corners x y k l₀ l₁ u₀ u₁ ≡ []
  unfolding column_corners join
  quiet-words e f = join-quiet 0 63 (corner_at x y k l₀ l₁ u₀ u₁) (omega arith)
      (λ b a c. corner-none b (still-no-corner x-axis (pattern_of l₀ l₁ u₀ u₁ b) (λ r c. go b r c)))
    where
      go : (b : ℕ) (r c : Bool) → bit_at (word_of l₀ l₁ u₀ u₁ true r) (up c b) ≡ bit_at (word_of l₀ l₁ u₀ u₁ false r) (up c b)
      go b false c = ap (λ w. bit_at w (up c b)) (sym e)
      go b true c = ap (λ w. bit_at w (up c b)) (sym f)

-- ---- room
-- the points of a column take room for one each
module _ (x y k l₀ l₁ u₀ u₁ : ℕ) (hx : x ≤ 1024) (hy : y ≤ 1024) (i : Inside k l₀ l₁ u₀ u₁) where
  pub takes-points : (j : ℕ) → j ≤ 63 → Takes (j * 1) (join j (corner_at x y k l₀ l₁ u₀ u₁))
  unfolding corner_at
  takes-points j h = takes-join 1 j (corner_at x y k l₀ l₁ u₀ u₁)
      λ b m. takes-point (corner (pattern_of l₀ l₁ u₀ u₁ b)) x y (63 * k + b) (byte (pattern_of l₀ l₁ u₀ u₁ b)) hx hy (i.top b (omega arith))

-- ---- a corner
module _ (x y k l₀ l₁ u₀ u₁ all : ℕ) (w : (b : ℕ) → bit_at all b ≡ (ltb b 63 && corner (pattern_of l₀ l₁ u₀ u₁ b))) {m j : ℕ} {f g : Found}
    (d : Visited 63 all (corner_at x y k l₀ l₁ u₀ u₁) m f g) (l : Lowest m j) where
  named : Names 63 all (corner_at x y k l₀ l₁ u₀ u₁)
  named = names-corners x y k l₀ l₁ u₀ u₁ all w

  is-corner : corner (pattern_of l₀ l₁ u₀ u₁ j) ≡ true
  is-corner = (named-corner x y k l₀ l₁ u₀ u₁ all w j (next-set named d l)).1

  point-in : j < 63
  point-in = next-in named d l

  module _ (i : Inside k l₀ l₁ u₀ u₁) where
    pub point-top : 63 * k + j ≤ 1024
    point-top = i.top j point-in is-corner

    pub point-room : x ≤ 1024 → y ≤ 1024 → k ≤ 16 → RoomFor (line_points 1024 - 63 * k) f.sums → RoomFor 1 g.sums
    point-room hx hy hk r =
        room-left f (join j (corner_at x y k l₀ l₁ u₀ u₁)) (field_points 1024 - 1) (visit-to named d l)
        (takes-points x y k l₀ l₁ u₀ u₁ hx hy i j (omega (arith, point-in))) r (omega (arith, point-top))

  pub point-next : {r p : ℕ} {h : Found} → WithoutLowest m r → p ≡ byte (pattern_of l₀ l₁ u₀ u₁ j) → h ≡ meet g (corner_of x y (63 * k + j) p)
      → Visited 63 all (corner_at x y k l₀ l₁ u₀ u₁) r f h
  point-next v q e = visit-more named d l v (corner-met x y k l₀ l₁ u₀ u₁ j g is-corner q e)
