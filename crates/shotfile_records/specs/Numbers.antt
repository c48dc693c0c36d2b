-- The three numbers of a record: those of a header, and those of a shot. docs/SCOPE.md, 'Shot file'.
use Rattle.std.specs.Prelude.{List, ℕ}
use Rattle.lattice.specs.Shots.{Shot}
use Rattle.job.specs.Job.{Job, numbers_of}
use Rattle.shotfile_records.specs.declared.Fields.{Fields}

-- the numbers of a header's record, and those of a shot's
abbrev pub setting_fields : Job → Fields
setting_fields job = record { first = job.field; second = job.edge; third = job.grid }

abbrev pub shot_fields : Shot → Fields
shot_fields t = record { first = t.x; second = t.y; third = t.z }

-- the fields of a shot's record as numbers of a coordinate list
abbrev pub shot_numbers : Fields → List ℕ
shot_numbers f = numbers_of f.first f.second f.third
