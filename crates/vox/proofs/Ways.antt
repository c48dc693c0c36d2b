-- What the checks of a VOX file answer, one way out after the other. Assumes nothing.
use mathlib.Core.Path.{◌≡◌, ap, ◌∙◌}
use mathlib.Core.Bool.{true, false}
use mathlib.Core.List.{List, [], ◌∷◌}
use Prim.Native.Nat.{ℕ, ◌+◌, ◌*◌, ◌≤◌, ◌<◌}
use native.Mathlib.Omega.{arith}
use lib.Dec.{ltb}
use lib.ListN.{length}
use borrow.Author.Tests.{lt-ltb, le-ltb}
use Rattle.refusals.specs.declared.Refusal.TheVariants.{TooManyShots, NoPlace, BrokenChunk, VoxelRange}
use Rattle.refusals.specs.Refusals.{Checked}
use Rattle.std.specs.Prelude.{Ok, Err}
use Rattle.refusals.specs.Tests.{first_of}
use Rattle.refusals.proofs.FirstOf.{first-here, first_next, first-none}
use Rattle.text_parts.specs.Text.{text}
use Rattle.vox_chunks.specs.Chunks.{missing, mismatched}
use Rattle.vox_voxels.specs.Voxels.{voxel_at, first_wrong}
use Rattle.vox.specs.Vox.{voxel_count, overrun_from, voxel_tests}

-- ---- XYZI and the chunks after it, by what was counted
module _ (places : ℕ) (s : List ℕ) (named : missing s 44 (text "XYZI") ≡ false) where
  pub miscounted : mismatched s 44 (4 + 4 * voxel_count s) ≡ true → Err (BrokenChunk 44) ≡ first_of (voxel_tests places s)
  unfolding voxel_tests
  miscounted h = first_next _ _ named (first-here _ _ h)

  module _ (matched : mismatched s 44 (4 + 4 * voxel_count s) ≡ false) {count : ℕ} (is : count ≡ voxel_count s) where
    pub too_many : 4096 < count → Err (TooManyShots 44) ≡ first_of (voxel_tests places s)
    unfolding voxel_tests
    too_many h = first_next _ _ named (first_next _ _ matched (first-here _ _ (lt-ltb 4096 (voxel_count s) (omega (arith, is)))))

    module _ (few : count ≤ 4096) where
      pub no_place : places < count → Err (NoPlace 44) ≡ first_of (voxel_tests places s)
      unfolding voxel_tests
      no_place h = first_next _ _ named (first_next _ _ matched (first_next _ _ (le-ltb 4096 (voxel_count s) (omega (arith, is))) (first-here _ _ (lt-ltb places (voxel_count s) (omega (arith, is))))))

      module _ (room : count ≤ places) {n : ℕ} (first : n ≡ first_wrong s 0 count) where
        first-is : n ≡ first_wrong s 0 (voxel_count s)
        first-is = first ∙ ap (first_wrong s 0) is

        pub wrong : n < count → Err (VoxelRange (60 + 4 * n)) ≡ first_of (voxel_tests places s)
        unfolding voxel_tests
        wrong h =
            first_next _ _ named (first_next _ _ matched (first_next _ _ (le-ltb 4096 (voxel_count s) (omega (arith, is))) (first_next _ _ (le-ltb places (voxel_count s) (omega (arith, is)))
            (ap (λ m. Err (VoxelRange (60 + 4 * m))) first-is ∙ first-here _ _ (lt-ltb (first_wrong s 0 (voxel_count s)) (voxel_count s) (omega (arith, is, first-is)))))))

        module _ (right : count ≤ n) {at : ℕ} (over : at ≡ overrun_from s (60 + 4 * count)) where
          over-is : at ≡ overrun_from s (voxel_at (voxel_count s))
          over-is = over ∙ ap (λ m. overrun_from s (60 + 4 * m)) is

          to-overrun : {c : Checked} → c ≡ first_of (record { holds = ltb (overrun_from s (voxel_at (voxel_count s))) (length s); gives = BrokenChunk (overrun_from s (voxel_at (voxel_count s))) } ∷ []) → c ≡ first_of (voxel_tests places s)
          unfolding voxel_tests
          to-overrun e =
              first_next _ _ named (first_next _ _ matched (first_next _ _ (le-ltb 4096 (voxel_count s) (omega (arith, is))) (first_next _ _ (le-ltb places (voxel_count s) (omega (arith, is)))
              (first_next _ _ (le-ltb (first_wrong s 0 (voxel_count s)) (voxel_count s) (omega (arith, is, first-is))) e))))

          pub overrun : at < length s → Err (BrokenChunk at) ≡ first_of (voxel_tests places s)
          overrun h = to-overrun (ap (λ m. Err (BrokenChunk m)) over-is ∙ first-here _ _ (lt-ltb (overrun_from s (voxel_at (voxel_count s))) (length s) (omega (arith, over-is))))

          pub whole : length s ≤ at → Ok tt ≡ first_of (voxel_tests places s)
          whole h = to-overrun (first_next _ _ (le-ltb (overrun_from s (voxel_at (voxel_count s))) (length s) (omega (arith, over-is))) first-none)
