-- Voxel after voxel and chunk after chunk: the first that is at fault, and the voxels one after the other. Assumes nothing.
use mathlib.Core.Path.{◌≡◌, refl, ap, ◌∙◌}
use mathlib.Core.Bool.{true, false, not, cond, ◌&&◌}
use mathlib.Core.List.{List, [], ◌++◌}
use Prim.Native.Nat.{ℕ, zero, suc, ◌+◌, ◌-◌, ◌≤◌, ◌<◌}
use native.Mathlib.Omega.{arith}
use lib.Dec.{ltb}
use lib.ListN.{length, get_or}
use borrow.Author.Tests.{lt-ltb, le-ltb}
use Rattle.buffer.proofs.Underway.{Underway, underway-none}
use Rattle.job.specs.Job.{place_of, numbers_of}
use Rattle.shotfile_records.specs.Numbers.{shot_numbers}
use Rattle.vox_chunks.specs.Chunks.{after_chunk, overruns}
use Rattle.vox_voxels.specs.Voxels.{voxel_at}
use Rattle.vox.specs.Vox.{voxel_fields, voxels, first_overrun, overrun_from}

-- ---- voxels
-- the three bytes of a voxel are the numbers of its shot
pub voxel-numbers : (s : List ℕ) (n : ℕ) → numbers_of (get_or s (voxel_at n) 0) (get_or s (voxel_at n + 1) 0) (get_or s (voxel_at n + 2) 0) ≡ shot_numbers (voxel_fields s n)
voxel-numbers s n =
    let e : voxel_at n + 0 ≡ voxel_at n = omega arith in
    rw e

module _ (s : List ℕ) (count : ℕ) where
  pub voxels-all : (w : List ℕ) → Underway (voxels s 0 count) w w 0 (place_of 0) (voxels s 0 (count - 0))
  voxels-all w =
      let e : count - 0 ≡ count = omega arith in
      rw e (underway-none (voxels s 0 count) w 0 (omega arith))

  module _ (n : ℕ) where
    pub voxels-done : count ≤ n → voxels s n (count - n) ≡ []
    unfolding voxels
    voxels-done h =
        let e : count - n ≡ 0 = omega arith in
        rw e

    module _ (h : n < count) where
      one_more : count - n ≡ suc (count - (n + 1))
      one_more = omega arith

      pub voxels-next : voxels s n (count - n) ≡ shot_numbers (voxel_fields s n) ++ voxels s (n + 1) (count - (n + 1))
      unfolding voxels
      voxels-next =
          let m : suc n ≡ n + 1 = omega arith in
          rw (one_more, m)

-- ---- chunks
module _ (s : List ℕ) where
  -- as many as there are bytes are enough
  over-enough : (m n at : ℕ) → length s ≤ at + m → length s ≤ at + n → first_overrun m s at ≡ first_overrun n s at
  unfolding first_overrun
  over-enough zero zero at h k = refl
  over-enough zero (suc n) at h k = rw (le-ltb at (length s) (omega arith))
  over-enough (suc m) zero at h k = rw (le-ltb at (length s) (omega arith))
  over-enough (suc m) (suc n) at h k = ap (λ (e : ℕ). cond (ltb at (length s) && not (overruns s at)) e at) (over-enough m n (after_chunk s at) (omega arith) (omega arith))

  module _ (at : ℕ) where
    none : (most : ℕ) → length s ≤ at → at ≡ first_overrun most s at
    unfolding first_overrun
    none zero h = refl
    none (suc most) h = rw (le-ltb at (length s) h)

    found : (most : ℕ) → at < length s → overruns s at ≡ true → at ≡ first_overrun most s at
    unfolding first_overrun
    found zero h e = refl
    found (suc most) h e = rw (lt-ltb at (length s) h, e)

    next : (most : ℕ) → at < length s → overruns s at ≡ false → first_overrun most s (after_chunk s at) ≡ first_overrun (suc most) s at
    unfolding first_overrun
    next most h e = rw (lt-ltb at (length s) h, e)

    pub over_none : length s ≤ at → at ≡ overrun_from s at
    over_none h = none (length s) h

    module _ (h : at < length s) where
      one_byte : suc (length s - 1) ≡ length s
      one_byte = omega arith

      pub over-found : overruns s at ≡ true → at ≡ overrun_from s at
      over-found e = found (length s) h e

      pub over-next : overruns s at ≡ false → overrun_from s (after_chunk s at) ≡ overrun_from s at
      over-next e =
          over-enough (length s) (length s - 1) (after_chunk s at) (omega arith) (omega arith)
          ∙ next (length s - 1) h e
          ∙ ap (λ m. first_overrun m s at) one_byte
