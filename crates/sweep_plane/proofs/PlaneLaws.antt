-- The layers about a plane are those of the boxes; where none begins or ends on it, it has no corner.
use mathlib.Core.Path.{◌≡◌, sym, ◌∙◌, ap, subst}
use mathlib.Core.Logic.{◌≢◌}
use mathlib.Core.Bool.{false}
use mathlib.Core.List.{List, []}
use Prim.Native.Nat.{ℕ, suc, ◌<◌, ◌≤◌}
use native.Mathlib.Omega.{arith}
use Rattle.lattice.specs.Cells.{up}
use Rattle.lattice.specs.Pattern.{around, corner}
use Rattle.lattice.specs.Axes.{x-axis}
use Rattle.lattice.specs.Boxes.{box_at, box_cells}
use Rattle.lattice.proofs.PatternLaws.{still-no-corner}
use Rattle.ground.proofs.JoinLaws.{join-nil}
use Rattle.lattice.proofs.SameSolid.{here-none}
use Rattle.lattice.proofs.BoxLaws.{boxes-within}
use Rattle.lattice_sums.specs.CornerSums.{Room}
use Rattle.lattice_sums.specs.declared.sums.CornerSums.{CornerSums}
use Rattle.sweep_image.specs.Images.{Layer, Shows, image_size}
use Rattle.sweep_settling.specs.Settling.{Settled}
use Rattle.sweep_names.specs.Names.{Lent}
use Rattle.sweep_overlaps.specs.Overlaps.{shade}
use Rattle.sweep_faces.specs.Layers.{About, touching, Becomes}
use Rattle.sweep_image.proofs.ImageLaws.{shows-ext}
use Rattle.sweep_layer.proofs.LayerLaws.{below-touching, below-shade, bare-plane}
use Rattle.sweep_tally.specs.Found.{Found, state, found}
use Rattle.sweep_points.specs.Points.{plane_at, Shown, PlaneFound}
use Rattle.sweep_plane.specs.Plane.{Both, PlaneOut}

module _ (field : ℕ) (boxes : List ℕ) (x : ℕ) {from old n : ℕ} (a : About field boxes x from old n) where
  pub shown-about : {l u u' names : List ℕ} → Both field (touching boxes x old) l u names → Becomes field (touching boxes x old) (shade boxes x n) u u' → Shown field x l u' (box_cells boxes n)
  shown-about b c = record {
    within = boxes-within field boxes n a.known.inside;
    lower = shows-ext (λ y z. sym (below-touching field boxes x y z a)) b.lower;
    upper = shows-ext (λ y z. sym (below-shade field boxes x y z a)) (c.shows b.upper);
  }

  pub plane-found : {l u : List ℕ} {f g : Found} → Shown field x l u (box_cells boxes n) → PlaneFound field x l u f g → PlaneOut field boxes x n f g
  plane-found s p = record { is = p.is (box_cells boxes n) s; room = p.room }

  -- ---- a plane on which no box begins or ends
  module _ (e : old ≡ n) (h : (i : ℕ) → from ≤ i → i < old → (box_at boxes i).x_end ≢ x) where
    no-corner : (y z : ℕ) → corner (around (box_cells boxes n) x y z) ≡ false
    no-corner y z = still-no-corner x-axis (around (box_cells boxes n) x y z) λ b c.
        below-shade field boxes x (up b y) (up c z) a ∙ sym (bare-plane field boxes x (up b y) (up c z) a e h) ∙ sym (below-touching field boxes x (up b y) (up c z) a)

    plane-bare : plane_at field x (box_cells boxes n) ≡ []
    unfolding plane_at
    plane-bare = join-nil (suc field) (λ y. join-nil (suc field) (λ z. here-none (box_cells boxes n) x y z (no-corner y z)))

    pub bare-found : (t : CornerSums) (b : List ℕ) {k : ℕ} → Room t k → PlaneOut field boxes x n (state t b) (state t b)
    unfolding found
    bare-found t b r = record { is = sym (ap (found (state t b)) plane-bare); room = record { sum_within = r.sum_within; few = omega arith } }

    pub bare-both : {l u names : List ℕ} → Both field (touching boxes x old) l u names → Both field (shade boxes x n) l u names
    bare-both b = record {
      lent = b.lent;
      lower = shows-ext (λ y z. bare-plane field boxes x y z a e h) b.lower;
      upper = shows-ext (λ y z. bare-plane field boxes x y z a e h) b.upper;
    }

-- ---- the lower image brought up to date
pub settled-both : {field : ℕ} {f g : Layer} {l u u₀ names l' names' : List ℕ} → Lent field l u names → Becomes field f g u₀ u → Shows field f u₀ → Settled field u l l' names' → Both field g l' u names'
settled-both {field} {f} {g} a b s t = record {
  lent = record { small = a.small; lower = subst (λ k. image_size field ≤ k) (sym t.same_size) a.lower; upper = a.upper; tells = t.tells };
  lower = t.shows g (b.shows s);
  upper = b.shows s;
}
