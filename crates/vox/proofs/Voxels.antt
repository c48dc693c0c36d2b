-- The list of an accepted VOX file: its shots are the voxels in file order, its cells are exactly theirs, it is valid, and its index needs
-- an entry a voxel and two more. The statements at the end are of the call, by what it promises. Assumes nothing.
use mathlib.Core.Path.{◌≡◌, refl, sym, ap, subst, ◌∙◌}
use mathlib.Core.Bool.{true, ◌||◌}
use mathlib.Core.List.{List}
use mathlib.Core.Logic.{◌↔◌}
use Prim.Native.Nat.{ℕ, zero, suc, ◌+◌, ◌<◌}
use native.Mathlib.Omega.{arith}
use lib.Dec.{leb, ltb, eqb}
use lib.ListN.{get_or}
use borrow.Author.Tests.{leb-false}
use Rattle.lattice.specs.Shots.{Shot, spans, covers, cells, InField}
use Rattle.job.specs.Job.{Job, job_of, shots_of, shot_count, shot_at, first_shots, Valid}
use Rattle.ground.proofs.Bools.{is_true, truth, or-false}
use Rattle.ground.proofs.Tests.{leb-says, ltb-says, and-says}
use Rattle.job.proofs.Shots.{shots-at, stay_all, any_at, at-any}
use Rattle.grid.proofs.NeedLaws.{one-cell-need}
use Rattle.shotfile_reader.specs.Files.{file}
use Rattle.std.specs.Prelude.{Ok}
use Rattle.job.specs.declared.Stored.{Stored}
use Rattle.shotfile_reader.proofs.Coords.{shots-more}
use Rattle.shotfile_reader.proofs.Accepted.{stored-list}
use Rattle.vox_voxels.specs.Voxels.{side_on, largest_side, byte_of, beyond, wrong_voxel}
use Rattle.vox.specs.Vox.{voxel_count, voxel_fields, voxels, vox_job, vox_in, VoxCall}
use Rattle.vox.specs.Conditions.{voxel_shot, HasVoxel, VoxList}
use Rattle.vox.proofs.Passed.{Passed, voxels-count, voxels-whole}
use Rattle.vox.proofs.Fits.{vox-fits, vox-accepted}
use Rattle.vox_voxels.proofs.VoxelLaws.{wrong_first}

-- ---- the voxels as shots
module _ (s : List ℕ) where
  shots-voxels : (n left m : ℕ) (o : Shot) → m < left → get_or (shots_of 1 (voxels s n left)) m o ≡ voxel_shot s (n + m)
  unfolding voxels
  shots-voxels n zero m o h = absurd (omega arith)
  shots-voxels n (suc left) zero o h =
      let e : n + 0 ≡ n = omega arith in
      ap (λ (l : List Shot). get_or l 0 o) (shots-more 1 (voxel_fields s n) (voxels s (suc n) left)) ∙ ap (voxel_shot s) (sym e)
  shots-voxels n (suc left) (suc m) o h =
      let e : suc n + m ≡ n + suc m = omega arith in
      ap (λ (l : List Shot). get_or l (suc m) o) (shots-more 1 (voxel_fields s n) (voxels s (suc n) left)) ∙ shots-voxels (suc n) left m o (omega arith) ∙ ap (voxel_shot s) e

  voxel-at : (m : ℕ) → m < voxel_count s → shot_at 1 (voxels s 0 (voxel_count s)) m ≡ voxel_shot s m
  voxel-at m h =
      let o = voxel_shot s 0 in
      let e : 0 + m ≡ m = omega arith in
      sym (shots-at 1 (voxels s 0 (voxel_count s)) m o (omega (arith, voxels-count s 0 (voxel_count s)))) ∙ shots-voxels 0 (voxel_count s) m o h ∙ ap (voxel_shot s) e

  -- ---- it stays in the field
  module _ {places : ℕ} (p : Passed places s) where
    voxel-inside : (m : ℕ) → m < voxel_count s → InField (largest_side s) (voxel_shot s m)
    unfolding wrong_voxel
    voxel-inside m h =
        let x = or-false (beyond s m 0) (beyond s m 1 || (beyond s m 2 || eqb (byte_of s m 3) 0)) ((wrong_first s 0 (voxel_count s) (voxel_count s) (omega arith)).earlier m (omega arith) (omega (arith, p.none-wrong))) in
        let y = or-false (beyond s m 1) (beyond s m 2 || eqb (byte_of s m 3) 0) x.1 in
        let z = or-false (beyond s m 2) (eqb (byte_of s m 3) 0) y.1 in
        record {
          x_in = omega (arith, leb-false (side_on s 0) (byte_of s m 0) x.0);
          y_in = omega (arith, leb-false (side_on s 1) (byte_of s m 1) y.0);
          z_in = omega (arith, leb-false (side_on s 2) (byte_of s m 2) z.0);
        }

    voxels-valid : Valid (vox_job s)
    voxels-valid =
        let n = voxels-count s 0 (voxel_count s) in
        record {
          threes = omega (arith, voxels-whole s 0 (voxel_count s));
          few = omega (arith, n, p.few);
          field_least = omega (arith, p.x-side.0);
          field_most = omega (arith, p.x-side.1, p.y-side.1, p.z-side.1);
          edge_least = omega arith;
          edge_most = omega (arith, p.x-side.0);
          grid_least = omega arith;
          grid_most = omega arith;
          grid_divides = omega arith;
          inside = stay_all (largest_side s) 1 (voxels s 0 (voxel_count s)) (λ i h. rw (voxel-at i (omega (arith, n))) (voxel-inside i (omega (arith, n))));
        }

  -- ---- its cells
  span-one : (a i : ℕ) → (spans 1 a i ≡ true) ↔ (a ≡ i)
  span-one a i =
      let b = and-says (leb a i) (ltb i (a + 1)) (leb-says a i) (ltb-says i (a + 1)) in
      (λ e. let p = b.0 e in omega (arith, p.0, p.1), λ e. b.1 (omega (arith, e), omega (arith, e)))

  covers_one : (n i j k : ℕ) → (covers (voxel_shot s n) i j k ≡ true) ↔ ((byte_of s n 0 ≡ i) × ((byte_of s n 1 ≡ j) × (byte_of s n 2 ≡ k)))
  covers_one n i j k =
      and-says (spans 1 (byte_of s n 0) i) _ (span-one (byte_of s n 0) i)
      (and-says (spans 1 (byte_of s n 1) j) (spans 1 (byte_of s n 2) k) (span-one (byte_of s n 1) j) (span-one (byte_of s n 2) k))

  abbrev list : List ℕ
  list = voxels s 0 (voxel_count s)

  voxels-cells : (i j k : ℕ) → (cells (shots_of 1 (voxels s 0 (voxel_count s))) i j k ≡ true) ↔ HasVoxel s i j k
  voxels-cells i j k = (to, from)
    where
      to : cells (shots_of 1 list) i j k ≡ true → HasVoxel s i j k
      to e =
          let a = any_at 1 (λ t. covers t i j k) list (truth (cells (shots_of 1 list) i j k) e) in
          let h : a.0 < voxel_count s = omega (arith, a.1, voxels-count s 0 (voxel_count s)) in
          let c = (covers_one a.0 i j k).0 (ap (λ (t : Shot). covers t i j k) (sym (voxel-at a.0 h)) ∙ is_true (covers (shot_at 1 list a.0) i j k) a.2) in
          record { n = a.0; is_voxel = h; x_is = c.0; y_is = c.1.0; z_is = c.1.1 }

      from : HasVoxel s i j k → cells (shots_of 1 list) i j k ≡ true
      from v =
          let e = ap (λ (t : Shot). covers t i j k) (voxel-at v.n v.is_voxel) ∙ (covers_one v.n i j k).1 (v.x_is, (v.y_is, v.z_is)) in
          is_true (cells (shots_of 1 list) i j k) (at-any 1 (λ t. covers t i j k) list v.n (omega (arith, v.is_voxel, voxels-count s 0 (voxel_count s))) (truth (covers (shot_at 1 list v.n) i j k) e))

-- ---- what an accepted file says
pub vox-list : (places : ℕ) (s : List ℕ) {job : Job} → vox_in places s ≡ file job → VoxList s job
vox-list places s e =
    let a = vox-accepted places s e in
    let v = voxels-valid s a.passed in
    subst (VoxList s) a.is (record {
      field = refl;
      edge = refl;
      grid = refl;
      count = voxels-count s 0 (voxel_count s);
      in_order = voxel-at s;
      exactly = voxels-cells s;
      valid = v;
      needs = one-cell-need v;
    })

-- ---- the call: the list that it stores
pub vox-stored : {s before after : List ℕ} {list : Stored} → VoxCall s before (Ok list) after → VoxList s (job_of list.field list.edge list.grid (first_shots list.shots after))
vox-stored {s} {before} call =
    let k = stored-list (vox_in (shot_count before) s) (record { answer = call.answer; coordinates = call.coordinates; fits = vox-fits (shot_count before) s }) refl in
    vox-list (shot_count before) s k.is
