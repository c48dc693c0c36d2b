-- Small VOX files, by computation: docs/SCOPE.md, 'VOX file'.
use mathlib.Core.Path.{◌≡◌, refl}
use mathlib.Core.List.{List, [], ◌∷◌, ◌++◌}
use Prim.Native.Nat.{ℕ}
use Prim.Native.String.{String}
use lib.ListN.{take}
use Rattle.refusals.specs.declared.Refusal.TheVariants.{NoPlace, NotVox, BrokenChunk, VoxelRange}
use Rattle.job.specs.Job.{job_of}
use Rattle.refusals.specs.Tests.{first_of}
use Rattle.shotfile_reader.specs.Files.{file, refused}
use Rattle.text_same.specs.Same.{same}
use Rattle.text_parts.specs.Text.{text}
use Rattle.vox_chunks.specs.Chunks.{number_at, stands}
use Rattle.vox_voxels.specs.Voxels.{wrong_voxel, first_wrong}
use Rattle.vox.specs.Vox.{voxels, first_overrun, opening_tests, voxel_tests, vox_in}

-- a number below 256
abbrev number : ℕ → List ℕ
number n = n ∷ 0 ∷ 0 ∷ 0 ∷ []

-- the head of a chunk
abbrev head : String → ℕ → ℕ → List ℕ
head name content children = text name ++ (number content ++ number children)

-- a file whose MAIN has children of this size; sides 2, 1, 3; one voxel of this colour at (1, 0, z); a chunk with these children
abbrev model : ℕ → ℕ → ℕ → List ℕ → List ℕ
model size z colour children =
    text "VOX " ++ (number 150 ++ (head "MAIN" 0 size
    ++ (head "SIZE" 12 0 ++ (number 2 ++ (number 1 ++ (number 3
    ++ (head "XYZI" 8 0 ++ (number 1 ++ (1 ∷ 0 ∷ z ∷ colour ∷ []
    ++ (head "note" 0 3 ++ children))))))))))

pub known-files :
    (vox_in 1 (model 59 2 7 (1 ∷ 2 ∷ 3 ∷ [])) ≡ file (job_of 3 1 1 (1 ∷ 0 ∷ 2 ∷ [])))
    × (vox_in 0 (model 59 2 7 (1 ∷ 2 ∷ 3 ∷ [])) ≡ refused (NoPlace 44))
    × (vox_in 1 (model 59 3 7 (1 ∷ 2 ∷ 3 ∷ [])) ≡ refused (VoxelRange 60))
    × (vox_in 1 (model 59 2 0 (1 ∷ 2 ∷ 3 ∷ [])) ≡ refused (VoxelRange 60))
    × (vox_in 1 (model 59 2 7 (1 ∷ 2 ∷ [])) ≡ refused (BrokenChunk 8))
    × (vox_in 1 (model 58 2 7 (1 ∷ 2 ∷ [])) ≡ refused (BrokenChunk 64))
    × (vox_in 1 (text "VOX ") ≡ refused (NotVox 0))
    × (vox_in 1 (take 8 (model 59 2 7 [])) ≡ refused (NotVox 8))
    × (vox_in 1 (take 11 (model 59 2 7 [])) ≡ refused (BrokenChunk 8))
unfolding vox_in opening_tests voxel_tests first_of wrong_voxel first_wrong voxels first_overrun number_at stands same
known-files = (refl, refl, refl, refl, refl, refl, refl, refl, refl)
