-- When `write` refuses, in words of numbers: docs/SCOPE.md, 'When a job is refused', 1, 2, 6 to 9 and 12.
use Rattle.std.specs.Prelude.{◌⊎◌, ℕ, ◌≤◌, ◌<◌, length}
use Rattle.refusals.specs.declared.Refusal.{Refusal}
use Rattle.refusals.specs.declared.Refusal.TheVariants.{ShortFile}
use Rattle.job.specs.Job.{Job, Valid}
use Rattle.job.specs.Checking.{tests}
use Rattle.job.specs.Conditions.{Condition}
use Rattle.refusals.specs.Deciding.{First, Gives}
use Rattle.shotfile_writer.specs.Files.{file_of}

-- a list is written if it is valid and its file fits
abbrev pub WriteAccepts : Job → ℕ → Type 0
WriteAccepts job room = Valid job × (length (file_of job) ≤ room)

-- by the first of 1, 2, 6, 7, 8, 9 whose condition holds; by 12 if none does and the byte buffer is shorter than the file
abbrev pub WriteRefuses : Job → ℕ → Refusal → Type 0
WriteRefuses job room r =
    First (Condition job) (tests job) r
    ⊎ (Valid job × Gives (room < length (file_of job)) (ShortFile (length (file_of job))) r)
