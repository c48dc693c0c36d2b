-- What a VOX file says: its voxels as shots of edge 1, in file order, or its refusal. docs/SCOPE.md, 'VOX file'.
-- The mark stands at 0, the version at 4, and three chunks at 8, 20 and 44: MAIN, whose children are the rest of the file, SIZE and XYZI.
use Rattle.std.specs.Prelude.{◌≡◌, Bool, not, cond, ◌&&◌, ◌||◌, List, [], ◌∷◌, ◌++◌, ℕ, zero, suc, ◌+◌, ◌*◌, ltb, eqb, length}
use Rattle.refusals.specs.declared.Refusal.TheVariants.{TooManyShots, NoPlace, NotVox, BrokenChunk, VoxelRange}
use Rattle.job.specs.Job.{Job, job_of, shot_count}
use Rattle.refusals.specs.Tests.{Test, first_of, if_accepted}
use Rattle.shotfile_records.specs.declared.Fields.{Fields}
use Rattle.shotfile_reader.specs.Files.{File, file, refused}
use Rattle.shotfile_records.specs.Numbers.{shot_numbers}
use Rattle.shotfile_reader.specs.Calls.{ReadAnswer, read_answer, read_numbers, read_values, read_coords}
use Rattle.text_parts.specs.Text.{text}
use Rattle.vox_chunks.specs.Chunks.{number_at, stands, content_at, after_chunk, missing, overruns, mismatched}
use Rattle.vox_voxels.specs.Voxels.{wrong_side, largest_side, voxel_at, byte_of, first_wrong}

-- ---- the mark and MAIN
-- the file does not open with the mark and the version 150
abbrev pub unmarked : List ℕ → Bool
unmarked s = ltb (length s) 8 || (not (stands s 0 (text "VOX ")) || not (eqb (number_at s 4) 150))

-- MAIN has content of its own, or its children do not fill the file
abbrev pub unfilled : List ℕ → Bool
unfilled s = not (eqb (content_at s 8) 0) || not (eqb (after_chunk s 8) (length s))

-- ---- XYZI
-- how many voxels it holds
abbrev pub voxel_count : List ℕ → ℕ
voxel_count s = number_at s 56

-- the coordinates of voxel n
abbrev pub voxel_fields : List ℕ → ℕ → Fields
voxel_fields s n = record { first = byte_of s n 0; second = byte_of s n 1; third = byte_of s n 2 }

-- of `left` voxels from voxel n on, in file order
unfoldable pub voxels : List ℕ → ℕ → ℕ → List ℕ
voxels s n zero = []
voxels s n (suc left) = shot_numbers (voxel_fields s n) ++ voxels s (suc n) left

-- ---- the chunks after XYZI, whatever their names
-- chunk after chunk from a place on, each passed with its content and children: the first that the file ends in, or where the last one ends.
-- There are fewer chunks than bytes, so that `most` of them, the file's length, is enough
unfoldable pub first_overrun : ℕ → List ℕ → ℕ → ℕ
first_overrun zero s at = at
first_overrun (suc most) s at = cond (ltb at (length s) && not (overruns s at)) (first_overrun most s (after_chunk s at)) at

abbrev pub overrun_from : List ℕ → ℕ → ℕ
overrun_from s at = first_overrun (length s) s at

-- ---- the refusals, in file order; 13 before 14 before 15 on one chunk, and 2 and 3 after 14 on XYZI: along the tests the offsets never fall,
-- a voxel belonging to XYZI, and on one offset the numbers stand in the order 13, 14, 2, 3, 15 (`InFileOrder`, specs/FileOrder.antt)
unfoldable pub opening_tests : List ℕ → List Test
opening_tests s =
    record { holds = unmarked s; gives = NotVox 0 }
    ∷ record { holds = missing s 8 (text "MAIN"); gives = NotVox 8 }
    ∷ record { holds = unfilled s; gives = BrokenChunk 8 }
    ∷ record { holds = missing s 20 (text "SIZE"); gives = NotVox 20 }
    ∷ record { holds = mismatched s 20 12; gives = BrokenChunk 20 }
    ∷ record { holds = wrong_side s 0 || (wrong_side s 1 || wrong_side s 2); gives = VoxelRange 20 }
    ∷ []

unfoldable pub voxel_tests : ℕ → List ℕ → List Test
voxel_tests places s =
    record { holds = missing s 44 (text "XYZI"); gives = NotVox 44 }
    ∷ record { holds = mismatched s 44 (4 + 4 * voxel_count s); gives = BrokenChunk 44 }
    ∷ record { holds = ltb 4096 (voxel_count s); gives = TooManyShots 44 }
    ∷ record { holds = ltb places (voxel_count s); gives = NoPlace 44 }
    ∷ record { holds = ltb (first_wrong s 0 (voxel_count s)) (voxel_count s); gives = VoxelRange (voxel_at (first_wrong s 0 (voxel_count s))) }
    ∷ record { holds = ltb (overrun_from s (voxel_at (voxel_count s))) (length s); gives = BrokenChunk (overrun_from s (voxel_at (voxel_count s))) }
    ∷ []

abbrev pub vox_tests : ℕ → List ℕ → List Test
vox_tests places s = opening_tests s ++ voxel_tests places s

-- ---- the list
-- the list of a file: the largest side as field, edge 1, grid 1, and the voxels
abbrev pub vox_job : List ℕ → Job
vox_job s = job_of (largest_side s) 1 1 (voxels s 0 (voxel_count s))

-- what a file says where the coordinate slice has places for so many shots
unfoldable pub vox_in : ℕ → List ℕ → File
vox_in places s = if_accepted (first_of (vox_tests places s)) refused (file (vox_job s))

-- what `read_vox` promises of its answer r and of the coordinate slice after it
pub record VoxCall (bytes before : List ℕ) (r : ReadAnswer) (after : List ℕ) : Type 0 where
  pub answer : r ≡ read_answer (vox_in (shot_count before) bytes)
  pub numbers : read_numbers r ≡ read_values (vox_in (shot_count before) bytes)
  pub coordinates : after ≡ read_coords (vox_in (shot_count before) bytes) before
