-- What quoting a VOX file leaves, by what reading the file and measuring its list answer.
use mathlib.Core.Path.{ap}
use mathlib.Core.List.{List}
use Prim.Native.Nat.{ℕ}
use Rattle.buffer.specs.Wrote.{Wrote}
use Rattle.buffer.proofs.WroteLaws.{wrote_as}
use Rattle.job.specs.Job.{shot_count}
use Rattle.shotfile_reader.specs.Calls.{ReadAnswer}
use Rattle.shotfile_reader.proofs.Accepted.{FileRead}
use Rattle.vox.specs.Vox.{vox_in, VoxCall}
use Rattle.vox.proofs.Fits.{vox-fits}
use Rattle.quoting_text.specs.Quoting.{answer_text}
use Rattle.quoting_text.specs.Answered.{ShotsThere, answered_file, FileMeasured}
use Rattle.quoting_text.proofs.TextLaws.{measured-as, shots-there, answered-is}
use Rattle.quoting.specs.VoxQuoting.{vox_text, VoxQuoted}
use Rattle.measure_intake.specs.Intake.{Measured}

module _ {bytes coords coords' : List ℕ} {a : ReadAnswer} (read : VoxCall bytes coords a coords') where
  vox-read : FileRead (vox_in (shot_count coords) bytes) coords a coords'
  vox-read = record { answer = read.answer; coordinates = read.coordinates; fits = vox-fits (shot_count coords) bytes }

  pub vox-there : ShotsThere a coords'
  vox-there = shots-there a vox-read

  pub vox-quoted : {n : ℕ} {work work' out out' : List ℕ} {m : Measured} → FileMeasured (answered_file a coords') work m work' → Wrote out out' 0 n (answer_text m)
      → VoxQuoted bytes coords work out n coords' work' out'
  unfolding vox_text
  vox-quoted q w = let q = measured-as (answered-is a vox-read) q in record { text = wrote_as (ap answer_text q.answer) w; coordinates = read.coordinates; index = q.index }
