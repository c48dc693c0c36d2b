-- Whether a VOX file has a further model. A model is a chunk SIZE and a chunk XYZI, which holds its voxels; the first XYZI stands at 44.
-- docs/SCOPE.md, 'VOX file'.
use Rattle.std.specs.Prelude.{Bool, false, not, ◌&&◌, ◌||◌, List, ℕ, zero, suc, length}
use Rattle.text_parts.specs.Text.{text}
use Rattle.vox_chunks.specs.Chunks.{stands, after_chunk, overruns}

-- chunk after chunk from a place on, each passed with its content and children, up to one that the file ends in: some chunk is XYZI.
-- There are fewer chunks than bytes, so that `most` of them, the file's length, is enough
unfoldable pub model_within : ℕ → List ℕ → ℕ → Bool
model_within zero s at = false
model_within (suc most) s at = not (overruns s at) && (stands s at (text "XYZI") || model_within most s (after_chunk s at))

abbrev pub model_from : List ℕ → ℕ → Bool
model_from s at = model_within (length s) s at

-- the first XYZI is whole, and some chunk after it is XYZI too
abbrev pub further_model : List ℕ → Bool
further_model s = not (overruns s 44) && model_from s (after_chunk s 44)
