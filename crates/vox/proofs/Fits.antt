-- The coordinates that a VOX file says are whole shots and have their places, and an accepted file passed the checks. Assumes nothing.
use mathlib.Core.Path.{◌≡◌, refl, sym}
use mathlib.Core.List.{List}
use Prim.Native.Nat.{ℕ}
use native.Mathlib.Omega.{arith}
use Rattle.refusals.specs.Refusals.{Checked}
use Rattle.std.specs.Prelude.{Ok, Err}
use Rattle.job.specs.Job.{Job}
use Rattle.refusals.specs.Tests.{first_of}
use Rattle.shotfile_reader.specs.Files.{file}
use Rattle.shotfile_reader.proofs.Accepted.{Fits}
use Rattle.vox.specs.Vox.{voxel_count, vox_tests, vox_job, vox_in}
use Rattle.vox.proofs.Passed.{Passed, passed-has, voxels-count, voxels-whole, given}

module _ (places : ℕ) (s : List ℕ) where
  pub vox-fits : Fits places (vox_in places s)
  unfolding vox_in
  vox-fits = go (first_of (vox_tests places s)) refl
    where
      go : (c : Checked) → first_of (vox_tests places s) ≡ c → Fits places (given s c)
      go (Ok tt) e = (voxels-whole s 0 (voxel_count s), omega (arith, voxels-count s 0 (voxel_count s), (passed-has places s (sym e)).room))
      go (Err r) e = tt

  -- an accepted file
  pub record Accepts (job : Job) : Type 0 where
    pub passed : Passed places s
    pub is : vox_job s ≡ job

  pub vox-accepted : {job : Job} → vox_in places s ≡ file job → Accepts job
  unfolding vox_in
  vox-accepted {job} e = go (first_of (vox_tests places s)) refl e
    where
      go : (c : Checked) → first_of (vox_tests places s) ≡ c → given s c ≡ file job → Accepts job
      go (Err r) h k = let z : ◌≡◌ {A = ℕ} 0 1 = cc in absurd (omega arith)
      go (Ok tt) h k = record { passed = passed-has places s (sym h); is = let z : vox_job s ≡ job = cc in z }
