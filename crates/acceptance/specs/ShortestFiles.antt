-- Request (vii), only the shortest file: docs/SCOPE.md, 'Shot file', and 'When a job is refused', 17.
use Rattle.std.specs.Prelude.{◌≡◌, Bool, true, List, ◌↔◌, ℕ, ◌≤◌, ◌<◌, length, get_or, Ok, Err}
use Rattle.refusals.specs.declared.Refusal.{Refusal}
use Rattle.refusals.specs.declared.Refusal.TheVariants.{NeedlessField}
use Rattle.job.specs.Job.{Job, shot_count}
use Rattle.job.specs.declared.Stored.{Stored}
use Rattle.shotfile_records.specs.declared.Fields.{Fields}
use Rattle.shotfile_reader.specs.Files.{file, file_in}
use Rattle.shotfile_reader.specs.Conditions.{end_of, IsRecord, Needless, Fault}
use Rattle.shotfile_reader.specs.Calls.{ReadAnswer}

-- ---- the reader
-- the first record that is faulty has its map at a place: it is the header, or one of 4,096 shots and has a place in the slice; its map has no
-- bit without a meaning, the file has all of its fields, and one of them says what its absence would mean
pub record FirstNeedless (places : ℕ) (s : List ℕ) (at : ℕ) : Type 0 where
  pub n : ℕ
  pub absent : Fields
  pub is_record : IsRecord s n at absent
  pub few : n ≤ 4096
  pub placed : n ≤ places
  pub known : get_or s at 0 < 8
  pub whole : end_of s at ≤ length s
  pub needless : Needless s at absent
  pub earlier_records : (m place : ℕ) (p : Fields) → m < n → IsRecord s m place p → (q : Refusal) → ¬ Fault places s m place p q

pub record OnlyShortest (bytes coords : List ℕ) (r : ReadAnswer) : Type 0 where
  -- no record of a file that is read has a needless field
  pub accepted : {list : Stored} → r ≡ Ok list → (k at : ℕ) (absent : Fields) → IsRecord bytes k at absent → ¬ Needless bytes at absent
  -- 17, with the offset of the map, exactly where the first faulty record has one
  pub refused : (at : ℕ) → (r ≡ Err (NeedlessField at)) ↔ FirstNeedless (shot_count coords) bytes at

-- ---- two shops
-- two files are the same if both are read and are the same bytes: exactly if they say one job, its settings and its shots
pub record FilesCompared (bytes coords others others-coords : List ℕ) (r : Bool) : Type 0 where
  pub same_job : (r ≡ true) ↔ ((job : Job) × (file_in (shot_count coords) bytes ≡ file job) × (file_in (shot_count others-coords) others ≡ file job))
  pub same_bytes : (one two : Job) → file_in (shot_count coords) bytes ≡ file one → file_in (shot_count others-coords) others ≡ file two → (r ≡ true) ↔ (bytes ≡ others)
