-- Why the list of a file that reads well is refused, as a line. docs/SCOPE.md, 'When a job is refused'.
use Rattle.std.specs.Prelude.{List, [], ℕ, Ok, Err}
use Rattle.job.specs.Job.{shot_count}
use Rattle.job.specs.Checking.{checked}
use Rattle.refusals.specs.Refusals.{Checked}
use Rattle.shotfile_reader.specs.Files.{File, file, refused, file_in}
use Rattle.shotfile_reader.specs.Calls.{read_coords}
use Rattle.shotfile_lines.specs.Lines.{refused_line}

-- why the list of a file that reads well is refused, if it is
abbrev pub list_verdict : Checked → List ℕ
list_verdict (Ok tt) = []
list_verdict (Err r) = refused_line r

abbrev pub verdict : File → List ℕ
verdict (file job) = list_verdict (checked job)
verdict (refused r) = []

-- why the list of the file is refused, if it is
abbrev pub file_verdict : List ℕ → List ℕ → List ℕ
file_verdict s coords = verdict (file_in (shot_count coords) s)

-- the coordinate slice then: what reading the file leaves in it
abbrev pub coords_after : List ℕ → List ℕ → List ℕ
coords_after s coords = read_coords (file_in (shot_count coords) s) coords
