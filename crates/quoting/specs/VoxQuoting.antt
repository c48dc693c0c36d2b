-- What is printed for a VOX file, and what is in the lent slices then: docs/SCOPE.md, 'VOX file'.
use Rattle.std.specs.Prelude.{◌≡◌, List, ℕ, length}
use Rattle.buffer.specs.Wrote.{Wrote}
use Rattle.job.specs.Job.{shot_count}
use Rattle.shotfile_reader.specs.Calls.{read_coords}
use Rattle.vox.specs.Vox.{vox_in}
use Rattle.quoting_text.specs.Quoting.{quoted_text, index_after}

-- a VOX file is read in place of a shot file
unfoldable pub vox_text : List ℕ → ℕ → ℕ → List ℕ
vox_text bytes places entries = quoted_text (vox_in places bytes) entries

-- quoting a VOX file: the same of what that says
pub record VoxQuoted (bytes coords work out : List ℕ) (r : ℕ) (coords' work' out' : List ℕ) : Type 0 where
  pub text : Wrote out out' 0 r (vox_text bytes (shot_count coords) (length work))
  pub coordinates : coords' ≡ read_coords (vox_in (shot_count coords) bytes) coords
  pub index : work' ≡ index_after (vox_in (shot_count coords) bytes) work
