-- Images that are blank before the first plane, and the boxes of a list's shots.
use mathlib.Core.Path.{◌≡◌, refl, sym, ◌∙◌, ap, subst, fun_ext}
use mathlib.Core.Bool.{false}
use mathlib.Core.List.{List, []}
use Prim.Native.Nat.{ℕ, ◌≤◌}
use native.Mathlib.Omega.{arith}
use lib.ListN.{replicate, length-replicate}
use Rattle.ground.specs.Numbers.{any_to}
use Rattle.lattice.specs.Cells.{Cells}
use Rattle.lattice.specs.Listing.{corners}
use Rattle.lattice_sums.specs.CornerSums.{sums_of}
use Rattle.lattice_sums.specs.declared.sums.CornerSums.{CornerSums}
use Rattle.job.specs.Job.{Job, Valid}
use Rattle.sweep_image.specs.Images.{image_size}
use Rattle.sweep_image.proofs.ImageLaws.{shows-ext, zeros-at, shows-zeros}
use Rattle.sweep_names.proofs.NameLaws.{tells-zeros}
use Rattle.sweep_faces.specs.Layers.{touching}
use Rattle.sweep_slots.specs.Slots.{Slots}
use Rattle.sweep_tally.specs.Found.{state, found}
use Rattle.sweep_plane.specs.Plane.{Both}
use Rattle.sweep_order.specs.Order.{row_size, Given, EndsRow}
use Rattle.sweep_planes.specs.Planes.{AllFound}

none_yet : (boxes : List ℕ) (y z : ℕ) → false ≡ touching boxes 0 0 y z
unfolding touching any_to
none_yet boxes y z = refl

-- blank images, before the first plane
pub both-blank : (field m : ℕ) (boxes : List ℕ) → field ≤ 1024 → image_size field ≤ m → Both field (touching boxes 0 0) (replicate m 0) (replicate m 0) (replicate 1040 0)
both-blank field m boxes h k = record {
  lent = record {
    small = h;
    lower = subst (λ j. image_size field ≤ j) (sym (length-replicate {A = ℕ} m 0)) k;
    upper = subst (λ j. image_size field ≤ j) (sym (length-replicate {A = ℕ} m 0)) k;
    tells = tells-zeros field (replicate m 0);
  };
  lower = shows-ext (none_yet boxes) (shows-zeros field m k);
  upper = shows-ext (none_yet boxes) (shows-zeros field m k);
}

-- ---- the boxes of a list's shots
pub same-found : (n : ℕ) (s s' : Cells) → ((i j k : ℕ) → s i j k ≡ s' i j k) → (b : List ℕ) {r : CornerSums} {b' : List ℕ} → AllFound n s b r b' → AllFound n s' b r b'
same-found n s s' h b e = e ∙ ap (λ (c : Cells). found (state (sums_of []) b) (corners n c)) (fun_ext λ i. fun_ext λ j. fun_ext λ k. h i j k)

-- the slots of a valid list are boxes of its field
pub slots-given : {job : Job} {boxes : List ℕ} {n : ℕ} → Valid job → Slots job.field job.edge job.coords boxes n → Given job.field boxes n
slots-given v s = record { field_least = v.field_least; field_most = v.field_most; few = s.few; there = omega (arith, s.few, s.size); boxes_in = s.boxes_in }

-- the row of ends, before any box is counted
pub ends-none : (boxes : List ℕ) → EndsRow boxes 0 (replicate row_size 0)
ends-none boxes = record {
  size = length-replicate {A = ℕ} row_size 0;
  few = λ p. subst (λ k. k ≤ 0) (sym (zeros-at row_size p)) (omega arith);
  no_end = λ p e i l. absurd (omega arith);
}
