-- What a VOX file has that passes the checks, and what `read_vox` then promises. Assumes nothing.
use mathlib.Core.Path.{◌≡◌, refl, sym, ap, ◌∙◌}
use mathlib.Core.List.{List}
use Prim.Native.Nat.{ℕ, zero, suc, ◌+◌, ◌*◌, ◌≤◌}
use native.Mathlib.Omega.{arith}
use lib.ListN.{length}
use borrow.Author.Tests.{ltb-false}
use Rattle.buffer.specs.Wrote.{in_front}
use Rattle.refusals.specs.declared.Refusal.{Refusal}
use Rattle.refusals.specs.Refusals.{Checked}
use Rattle.std.specs.Prelude.{Ok, Err}
use Rattle.job.specs.Job.{shot_count, place_of}
use Rattle.refusals.specs.Tests.{first_of, if_accepted}
use Rattle.ground.proofs.Bools.{or-false}
use Rattle.job.proofs.Tests.{within}
use Rattle.refusals.proofs.FirstOf.{passes, first-passed, first-stopped}
use Rattle.shotfile_reader.specs.Files.{File, file, refused}
use Rattle.shotfile_reader.specs.Calls.{read_answer, read_numbers, read_values, read_coords}
use Rattle.shotfile_reader.proofs.Coords.{count_none, count-more, places-more}
use Rattle.vox_chunks.proofs.ChunkLaws.{matched-whole}
use Rattle.vox_voxels.specs.Voxels.{side_on, wrong_side, largest_side, voxel_at, first_wrong}
use Rattle.vox.specs.Vox.{voxel_count, voxel_fields, voxels, opening_tests, voxel_tests, vox_tests, vox_job, vox_in, VoxCall}

-- ---- the two parts of the checks
module _ (places : ℕ) (s : List ℕ) where
  pub opening-refused : {r : Refusal} → Err r ≡ first_of (opening_tests s) → Err r ≡ first_of (vox_tests places s)
  opening-refused e = sym (first-stopped (voxel_tests places s) (opening_tests s) (sym e))

  pub opening-passed : {c : Checked} → Ok tt ≡ first_of (opening_tests s) → c ≡ first_of (voxel_tests places s) → c ≡ first_of (vox_tests places s)
  opening-passed e k = k ∙ sym (first-passed (voxel_tests places s) (opening_tests s) (sym e))

  -- SIZE is whole
  pub size-whole : Ok tt ≡ first_of (opening_tests s) → 44 ≤ length s
  unfolding opening_tests
  size-whole e = matched-whole s 20 12 ((passes (opening_tests s)).0 (sym e)).1.1.1.1.0

-- ---- a file that passes
pub record Passed (places : ℕ) (s : List ℕ) : Type 0 where
  pub x-side : (1 ≤ side_on s 0) × (side_on s 0 ≤ 256)
  pub y-side : (1 ≤ side_on s 1) × (side_on s 1 ≤ 256)
  pub z-side : (1 ≤ side_on s 2) × (side_on s 2 ≤ 256)
  pub whole : voxel_at (voxel_count s) ≤ length s
  pub few : voxel_count s ≤ 4096
  pub room : voxel_count s ≤ places
  pub none-wrong : voxel_count s ≤ first_wrong s 0 (voxel_count s)

pub passed-has : (places : ℕ) (s : List ℕ) → Ok tt ≡ first_of (vox_tests places s) → Passed places s
unfolding opening_tests voxel_tests
passed-has places s e =
    let p = ((passes (vox_tests places s)).0 (sym e)).1.1.1.1.1 in
    let sides = or-false (wrong_side s 0) _ p.0 in
    let others = or-false (wrong_side s 1) _ sides.1 in
    let q = p.1.1 in
    record {
      x-side = within 1 256 (side_on s 0) sides.0;
      y-side = within 1 256 (side_on s 1) others.0;
      z-side = within 1 256 (side_on s 2) others.1;
      whole = omega (arith, matched-whole s 44 (4 + 4 * voxel_count s) q.0);
      few = ltb-false 4096 (voxel_count s) q.1.0;
      room = ltb-false places (voxel_count s) q.1.1.0;
      none-wrong = ltb-false (first_wrong s 0 (voxel_count s)) (voxel_count s) q.1.1.1.0;
    }

pub largest-few : {places : ℕ} {s : List ℕ} → Passed places s → largest_side s ≤ 256
largest-few p = omega (arith, p.x-side, p.y-side, p.z-side)

-- ---- how many shots the voxels are
pub voxels-count : (s : List ℕ) (n left : ℕ) → shot_count (voxels s n left) ≡ left
unfolding voxels
voxels-count s n zero = count_none
voxels-count s n (suc left) = count-more (voxel_fields s n) (voxels s (suc n) left) ∙ ap suc (voxels-count s (suc n) left)

pub voxels-whole : (s : List ℕ) (n left : ℕ) → length (voxels s n left) ≡ place_of (shot_count (voxels s n left))
unfolding voxels
voxels-whole s n zero = refl
voxels-whole s n (suc left) = places-more (voxel_fields s n) (voxels s (suc n) left) (voxels-whole s (suc n) left)

-- ---- the call
-- what the file says, by what the checks found
abbrev pub given : List ℕ → Checked → File
given s c = if_accepted c refused (file (vox_job s))

module _ (s before : List ℕ) where
  vox-is : {c : Checked} → c ≡ first_of (vox_tests (shot_count before) s) → given s c ≡ vox_in (shot_count before) s
  unfolding vox_in
  vox-is e = ap (given s) e

  pub vox-refused : {r : Refusal} → Err r ≡ first_of (vox_tests (shot_count before) s) → VoxCall s before (Err r) before
  unfolding read_numbers read_values
  vox-refused e =
      let k = vox-is e in
      record {
        answer = ap read_answer k;
        numbers = ap read_values k;
        coordinates = ap (λ (f : File). read_coords f before) k;
      }

  pub vox-read : Ok tt ≡ first_of (vox_tests (shot_count before) s) → {count field : ℕ} {after : List ℕ} → count ≡ voxel_count s → field ≡ largest_side s
      → after ≡ in_front (voxels s 0 count) before → VoxCall s before (Ok (record { field = field; edge = 1; grid = 1; shots = count })) after
  unfolding read_numbers read_values
  vox-read e {count} {field} n f a =
      let k = vox-is e in
      let m = n ∙ sym (voxels-count s 0 (voxel_count s)) in
      record {
        answer = rw (f, m) (ap read_answer k);
        numbers = rw (f, m) (ap read_values k);
        coordinates = a ∙ ap (λ l. in_front (voxels s 0 l) before) n ∙ ap (λ (f : File). read_coords f before) k;
      }
