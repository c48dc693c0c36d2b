-- The text of a shot file: a line for each setting of its header and for each shot, and a line of a refusal where there is one.
-- docs/SCOPE.md, 'Shot file' and 'When a job is refused'. The lines are those of `shotfile_lines`, `shotfile_shots` and `shotfile_verdict`.
use Rattle.std.specs.Prelude.{◌≡◌, List, ◌++◌, ℕ, get_or, Ok, Err}
use Rattle.buffer.specs.Wrote.{Wrote}
use Rattle.job.specs.Job.{shot_count}
use Rattle.shotfile_records.specs.Records.{header_absent, record_at}
use Rattle.shotfile_reader.specs.Files.{Taken, first_shot, file_in}
use Rattle.shotfile_lines.specs.Lines.{settings, refused_line}
use Rattle.shotfile_shots.specs.ShotLines.{shot_lines}
use Rattle.shotfile_verdict.specs.Verdicts.{verdict, coords_after}

-- the settings, at most 4,096 shots, and the verdict; or the refusal of the header
abbrev pub records_text : ℕ → List ℕ → Taken → List ℕ
records_text places s (Ok taken) =
    settings (get_or s 0 0) taken.fields ++ (shot_lines 4096 0 s (first_shot taken.end) ++ verdict (file_in places s))
records_text places s (Err r) = refused_line r

-- the text of a file, where the coordinate slice has places for so many shots
unfoldable pub plain_text : ℕ → List ℕ → List ℕ
plain_text places s = records_text places s (record_at s 0 header_absent)

-- what `put_text` promises: the text at the front of the slice `out`, up to place r, and the coordinates
pub record TextCall (s coords out : List ℕ) (r : ℕ) (coords' out' : List ℕ) : Type 0 where
  pub text : Wrote out out' 0 r (plain_text (shot_count coords) s)
  pub coordinates : coords' ≡ coords_after s coords
