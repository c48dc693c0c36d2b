-- Small shot files, by computation: the settings that a header leaves out, written and read back, and fields that are needless. docs/SCOPE.md,
-- 'Shot file'.
use mathlib.Core.Path.{◌≡◌, refl}
use mathlib.Core.List.{List, [], ◌∷◌}
use Prim.Native.Nat.{ℕ}
use Rattle.refusals.specs.declared.Refusal.TheVariants.{CutShort, NeedlessField}
use Rattle.job.specs.Job.{job_of, shots_of}
use Rattle.shotfile_records.specs.Records.{header_absent, first_absent, field_at, fields_at, needless, tight, record_at, bit_of, field_of, record_of}
use Rattle.shotfile_reader.specs.Files.{step_at, shots_from, file, refused, file_in}
use Rattle.shotfile_writer.specs.Files.{shot_records, file_of}

-- these bytes are the file of these settings and no shots, and they are read as that
abbrev WrittenAs : ℕ → ℕ → ℕ → List ℕ → Type 0
WrittenAs F E G bytes = (file_of (job_of F E G []) ≡ bytes) × (file_in 0 bytes ≡ file (job_of F E G []))

-- a grid of 16 is left out, and one of 8 is named
pub known-files :
    WrittenAs 1024 16 16 (0 ∷ [])
    × WrittenAs 1024 16 8 (4 ∷ 8 ∷ 0 ∷ [])
    × WrittenAs 8 2 16 (3 ∷ 8 ∷ 0 ∷ 2 ∷ 0 ∷ [])
    × WrittenAs 8 2 8 (7 ∷ 8 ∷ 0 ∷ 2 ∷ 0 ∷ 8 ∷ 0 ∷ [])
unfolding header_absent field_at fields_at needless tight record_at bit_of field_of record_of step_at shots_from file_in shot_records file_of shots_of
known-files = ((refl, refl), (refl, refl), (refl, refl), (refl, refl))

-- a grid of 16 that is named; a 0 of the first shot; an x that repeats one which was itself left out; and a grid of 16 that is cut off
pub needless-files :
    (file_in 0 (4 ∷ 16 ∷ 0 ∷ []) ≡ refused (NeedlessField 0))
    × (file_in 1 (0 ∷ 4 ∷ 0 ∷ 0 ∷ []) ≡ refused (NeedlessField 1))
    × (file_in 3 (0 ∷ 1 ∷ 5 ∷ 0 ∷ 0 ∷ 1 ∷ 5 ∷ 0 ∷ []) ≡ refused (NeedlessField 5))
    × (file_in 0 (4 ∷ 16 ∷ []) ≡ refused (CutShort 0))
unfolding header_absent first_absent field_at fields_at needless tight record_at step_at shots_from file_in
needless-files = (refl, refl, refl, refl)
