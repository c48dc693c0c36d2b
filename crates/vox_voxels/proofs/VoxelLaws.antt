-- The first voxel that is at fault is found by a search. Assumes nothing.
use mathlib.Core.Path.{◌≡◌, refl}
use mathlib.Core.Bool.{Bool, true, false, cond}
use mathlib.Core.List.{List}
use Prim.Native.Nat.{ℕ, zero, suc, ◌+◌}
use native.Mathlib.Omega.{arith}
use Rattle.ground.specs.FirstPlace.{FirstPlace}
use Rattle.ground.proofs.SearchLaws.{search-none, search-all, place-unique, place_here, place-next}
use Rattle.vox_voxels.specs.Voxels.{wrong_voxel, first_wrong}

module _ (s : List ℕ) where
  -- it is the first place of one
  pub wrong_first : (n left to : ℕ) → n + left ≡ to → FirstPlace (wrong_voxel s) n to (first_wrong s n left)
  unfolding first_wrong
  wrong_first n zero to e = search-all (search-none (omega arith)) (omega arith)
  wrong_first n (suc left) to e = go (wrong_voxel s n) refl (wrong_first (suc n) left to (omega arith))
    where
      go : (b : Bool) → wrong_voxel s n ≡ b → FirstPlace (wrong_voxel s) (suc n) to (first_wrong s (suc n) left) → FirstPlace (wrong_voxel s) n to (cond b n (first_wrong s (suc n) left))
      go true w r = place_here (omega arith) w
      go false w r = place-next w r

  -- so a search finds it
  pub wrong-found : {count r : ℕ} → FirstPlace (wrong_voxel s) 0 count r → r ≡ first_wrong s 0 count
  wrong-found {count} a = place-unique a (wrong_first 0 count count (omega arith))
