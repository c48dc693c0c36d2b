-- The shortest form of a shot file: no field says what its absence would mean. docs/SCOPE.md, 'Shot file'.
use Rattle.std.specs.Prelude.{Bool, true, false, ◌&&◌, List, ℕ, zero, suc, length, Ok, Err}
use Rattle.shotfile_records.specs.Records.{header_absent, record_at, tight}
use Rattle.shotfile_reader.specs.declared.Cursor.{Cursor}
use Rattle.shotfile_reader.specs.Files.{Taken, step_at, first_shot, on_shot}

-- no field of the next n records says what its absence would mean
unfoldable pub tight_from : ℕ → List ℕ → Cursor → Bool
tight_from zero s c = true
tight_from (suc n) s c = tight s c.at c.last && on_shot (step_at s c) true (tight_from n s)

-- a file is in its shortest form if no field of its header and of its shots says what its absence would mean
abbrev pub tight_rest : List ℕ → Taken → Bool
tight_rest s (Ok taken) = tight_from (length s) s (first_shot taken.end)
tight_rest s (Err r) = false

unfoldable pub shortest : List ℕ → Bool
shortest s = tight s 0 header_absent && tight_rest s (record_at s 0 header_absent)
