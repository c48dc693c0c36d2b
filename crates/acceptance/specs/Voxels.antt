-- Request (i): the voxels of an accepted VOX file are its shots, in file order, and their cells are exactly the cells quoted. docs/SCOPE.md,
-- 'VOX file'.
use Rattle.std.specs.Prelude.{◌≡◌, List, ℕ, Ok}
use Rattle.job.specs.Job.{job_of, first_shots}
use Rattle.job.specs.declared.Stored.{Stored}
use Rattle.shotfile_reader.specs.Calls.{ReadAnswer}
use Rattle.vox.specs.Conditions.{VoxList}

-- of a file that is read: the list that stands in the coordinate slice
abbrev pub VoxelsRead : List ℕ → ReadAnswer → List ℕ → Type 0
VoxelsRead bytes r coords' = (list : Stored) → r ≡ Ok list → VoxList bytes (job_of list.field list.edge list.grid (first_shots list.shots coords'))
