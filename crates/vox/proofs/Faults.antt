-- What the searches of a VOX file find, in words of numbers: the first wrong voxel, and the chunk after XYZI that the file ends in. Assumes
-- nothing.
use mathlib.Core.Path.{◌≡◌, refl, sym, ◌∙◌}
use mathlib.Core.Bool.{Bool, true, false, not, cond, ◌&&◌, true≢false}
use mathlib.Core.List.{List}
use mathlib.Core.Logic.{◌↔◌}
use Prim.Native.Nat.{ℕ, zero, suc, ◌+◌, ◌≤◌, ◌<◌}
use native.Mathlib.Omega.{arith}
use lib.Dec.{ltb, eqb}
use lib.ListN.{length}
use borrow.Author.Tests.{ltb-true, ltb-false, lt-ltb, le-ltb}
use Rattle.ground.proofs.Tests.{leb-says, eqb-says, or-says}
use Rattle.vox_chunks.specs.Chunks.{after_chunk, overruns}
use Rattle.vox_voxels.specs.Voxels.{side_on, voxel_at, byte_of, beyond, wrong_voxel, first_wrong}
use Rattle.vox_voxels.proofs.VoxelLaws.{wrong_first}
use Rattle.vox.specs.Vox.{voxel_count, first_overrun, overrun_from}
use Rattle.vox.specs.Conditions.{Ends, LaterChunk, first_later, next_later, BrokenAt, later_broken, WrongVoxel, FirstWrong}
use Rattle.vox.proofs.Walks.{over-found, over-next}

module _ (s : List ℕ) where
  -- ---- the first wrong voxel
  wrong-says : (n : ℕ) → (wrong_voxel s n ≡ true) ↔ WrongVoxel s n
  unfolding wrong_voxel
  wrong-says n =
      or-says (beyond s n 0) _ (leb-says (side_on s 0) (byte_of s n 0))
      (or-says (beyond s n 1) _ (leb-says (side_on s 1) (byte_of s n 1))
      (or-says (beyond s n 2) (eqb (byte_of s n 3) 0) (leb-says (side_on s 2) (byte_of s n 2)) (eqb-says (byte_of s n 3) 0)))

  abbrev pub first_fault : ℕ
  first_fault = first_wrong s 0 (voxel_count s)

  right-before : (n : ℕ) → n < first_fault → ¬ WrongVoxel s n
  right-before n h w = true≢false (sym ((wrong-says n).1 w) ∙ (wrong_first s 0 (voxel_count s) (voxel_count s) (omega arith)).earlier n (omega arith) h)

  pub fault-is : first_fault < voxel_count s → FirstWrong s first_fault
  fault-is h = record { is_voxel = h; is_wrong = (wrong-says first_fault).0 ((wrong_first s 0 (voxel_count s) (voxel_count s) (omega arith)).passes h); earlier_right = right-before }

  pub fault-one : {n : ℕ} → FirstWrong s n → n ≡ first_fault
  fault-one {n} f = go (ltb n first_fault) refl (ltb first_fault n) refl
    where
      go : (a : Bool) → ltb n first_fault ≡ a → (b : Bool) → ltb first_fault n ≡ b → n ≡ first_fault
      go true h b k = absurd (right-before n (ltb-true n first_fault h) f.is_wrong)
      go false h true k = absurd (f.earlier_right first_fault (ltb-true first_fault n k) (fault-is (omega (arith, ltb-true first_fault n k, f.is_voxel))).is_wrong)
      go false h false k = omega (arith, ltb-false n first_fault h, ltb-false first_fault n k)

  -- ---- the chunks after XYZI
  abbrev pub after_voxels : ℕ
  after_voxels = voxel_at (voxel_count s)

  pub later-past : {at : ℕ} → LaterChunk s at → 60 ≤ at
  later-past (first_later h) = omega arith
  later-past (next_later l h) = omega (arith, later-past l)

  pub later-inside : {at : ℕ} → LaterChunk s at → at < length s
  later-inside (first_later h) = h
  later-inside (next_later l h) = h

  later-walk : {at : ℕ} → LaterChunk s at → overrun_from s at ≡ overrun_from s after_voxels
  later-walk (first_later h) = refl
  later-walk (next_later {at} l h) = over-next s at (later-inside l) (le-ltb (length s) (after_chunk s at) (omega arith)) ∙ later-walk l

  pub walk-past : (most at : ℕ) → at ≤ first_overrun most s at
  unfolding first_overrun
  walk-past zero at = omega arith
  walk-past (suc most) at = go (ltb at (length s) && not (overruns s at)) (walk-past most (after_chunk s at))
    where
      go : (b : Bool) → after_chunk s at ≤ first_overrun most s (after_chunk s at) → at ≤ cond b (first_overrun most s (after_chunk s at)) at
      go true h = omega (arith, h)
      go false h = omega arith

  -- where the walk stops in the file, a chunk ends past it
  walk-stops : (most at : ℕ) → LaterChunk s at → length s ≤ at + most → first_overrun most s at < length s → LaterChunk s (first_overrun most s at) × Ends s (first_overrun most s at)
  unfolding first_overrun
  walk-stops zero at l h k = absurd (omega (arith, later-inside l))
  walk-stops (suc most) at l h k = go (overruns s at) refl k (walk-stops most (after_chunk s at))
    where
      go : (b : Bool) → overruns s at ≡ b → cond (ltb at (length s) && not b) (first_overrun most s (after_chunk s at)) at < length s
          → (LaterChunk s (after_chunk s at) → length s ≤ after_chunk s at + most → first_overrun most s (after_chunk s at) < length s → LaterChunk s (first_overrun most s (after_chunk s at)) × Ends s (first_overrun most s (after_chunk s at)))
          → LaterChunk s (cond (ltb at (length s) && not b) (first_overrun most s (after_chunk s at)) at) × Ends s (cond (ltb at (length s) && not b) (first_overrun most s (after_chunk s at)) at)
      go true e k f = rw (lt-ltb at (length s) (later-inside l)) (l, ltb-true (length s) (after_chunk s at) e)
      go false e k f =
          let in-file = lt-ltb at (length s) (later-inside l) in
          let k' : first_overrun most s (after_chunk s at) < length s = rw in-file at k in
          rw in-file (f (next_later l (omega (arith, k', walk-past most (after_chunk s at)))) (omega arith) k')

  pub stops-broken : overrun_from s after_voxels < length s → BrokenAt s (overrun_from s after_voxels)
  stops-broken h =
      let p = walk-stops (length s) after_voxels (first_later (omega (arith, h, walk-past (length s) after_voxels))) (omega arith) h in
      later_broken p.0 p.1

  pub later-stops : {at : ℕ} → LaterChunk s at → Ends s at → at ≡ overrun_from s after_voxels
  later-stops {at} l h = over-found s at (later-inside l) (lt-ltb (length s) (after_chunk s at) h) ∙ later-walk l
