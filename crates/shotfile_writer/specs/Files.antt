-- A shot file as it is written: the header's record and then a record a shot, each in its shortest form. docs/SCOPE.md, 'Shot file'.
use Rattle.std.specs.Prelude.{List, [], ◌∷◌, ◌++◌, ℕ}
use Rattle.lattice.specs.Shots.{Shot}
use Rattle.job.specs.Job.{Job, x_at, y_at, z_at, shots}
use Rattle.shotfile_records.specs.declared.Fields.{Fields}
use Rattle.shotfile_records.specs.Numbers.{setting_fields, shot_fields}
use Rattle.shotfile_records.specs.Records.{header_absent, first_absent, record_of}

-- the records of shots, after a shot with these coordinates
unfoldable pub shot_records : Fields → List Shot → List ℕ
shot_records last [] = []
shot_records last (t ∷ ts) = record_of last (shot_fields t) ++ shot_records (shot_fields t) ts

-- the fields of shot i, from 0
abbrev pub coords_at : List ℕ → ℕ → Fields
coords_at coords i = record { first = x_at coords i; second = y_at coords i; third = z_at coords i }

-- the file of a job
unfoldable pub file_of : Job → List ℕ
file_of job = record_of header_absent (setting_fields job) ++ shot_records first_absent (shots job)
