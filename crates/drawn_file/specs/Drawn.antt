-- What writing a VOX file as a shot file answers, and what is in the lent slices then: the list that the file holds is written.
-- docs/SCOPE.md, 'VOX file' and 'Shot file'.
use Rattle.std.specs.Prelude.{◌≡◌, List, ℕ, length, Err}
use Rattle.job.specs.Job.{shot_count}
use Rattle.shotfile_reader.specs.Files.{File, file, refused}
use Rattle.shotfile_reader.specs.Calls.{read_coords}
use Rattle.shotfile_writer.specs.Calls.{WriteAnswer, written_numbers, write_answer, write_values, write_bytes}
use Rattle.vox.specs.Vox.{vox_in}

-- with so many bytes for the shot file; a file that is refused is not written
abbrev pub drawn_answer : File → ℕ → WriteAnswer
drawn_answer (file job) room = write_answer job room
drawn_answer (refused r) room = Err r

abbrev pub drawn_numbers : File → ℕ → List ℕ
drawn_numbers (file job) room = write_values job room
drawn_numbers (refused r) room = written_numbers (Err r)

abbrev pub drawn_after : File → List ℕ → List ℕ
drawn_after (file job) lent = write_bytes job lent
drawn_after (refused r) lent = lent

-- ---- the promise
pub record FileDrawn (bytes coords lent : List ℕ) (r : WriteAnswer) (coords' lent' : List ℕ) : Type 0 where
  pub answer : r ≡ drawn_answer (vox_in (shot_count coords) bytes) (length lent)
  pub numbers : written_numbers r ≡ drawn_numbers (vox_in (shot_count coords) bytes) (length lent)
  pub coordinates : coords' ≡ read_coords (vox_in (shot_count coords) bytes) coords
  pub shot_file : lent' ≡ drawn_after (vox_in (shot_count coords) bytes) lent
