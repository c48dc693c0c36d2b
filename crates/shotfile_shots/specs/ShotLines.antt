-- The lines of a file's shots, from a cursor on. docs/SCOPE.md, 'Shot file'. The single lines are those of `shotfile_lines`.
use Rattle.std.specs.Prelude.{cond, List, [], ◌++◌, ℕ, zero, suc, ◌+◌, ltb, length, Ok, Err, Some, None}
use Rattle.refusals.specs.declared.Refusal.TheVariants.{TooManyShots}
use Rattle.shotfile_reader.specs.declared.Cursor.{Cursor}
use Rattle.shotfile_reader.specs.Files.{Step, step_at}
use Rattle.shotfile_lines.specs.Lines.{shot_line, refused_line}

-- what a step gives for shot n with the map at a place, and then the rest
abbrev pub step_line : ℕ → ℕ → Step → (Cursor → List ℕ) → List ℕ
step_line n at (Ok (Some c)) rest = shot_line c.last n at ++ rest c
step_line n at (Err r) rest = refused_line r
step_line n at (Ok None) rest = []

-- the shots from a cursor on, of which the first is shot n and `left` more are allowed; the first faulty record ends them
unfoldable pub shot_lines : ℕ → ℕ → List ℕ → Cursor → List ℕ
shot_lines zero n s c = cond (ltb c.at (length s)) (refused_line (TooManyShots c.at)) []
shot_lines (suc left) n s c = step_line n c.at (step_at s c) (shot_lines left (n + 1) s)
