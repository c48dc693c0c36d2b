-- What `write` answers, and what it leaves in the byte buffer. docs/SCOPE.md, 'When a job is refused'.
use Rattle.std.specs.Prelude.{◌≡◌, List, [], ◌∷◌, ◌++◌, ℕ, length, Result, Ok, Err}
use Rattle.buffer.specs.Wrote.{in_front}
use Rattle.refusals.specs.declared.Refusal.{Refusal}
use Rattle.refusals.specs.declared.Refusal.TheVariants.{ShortFile}
use Rattle.job.specs.Job.{Job}
use Rattle.refusals.specs.Refusals.{number_of, detail_of}
use Rattle.refusals.specs.Tests.{Test, length_test, first_of, if_accepted}
use Rattle.job.specs.Checking.{tests}
use Rattle.shotfile_writer.specs.Files.{file_of}

-- the file of a list is longer than the byte buffer
abbrev pub long_file : Job → ℕ → Test
long_file job room = length_test room (length (file_of job)) (ShortFile (length (file_of job)))

-- the tests of a list, and then that of its file
unfoldable pub write_tests : Job → ℕ → List Test
write_tests job room = tests job ++ long_file job room ∷ []

-- what a writer answers: how many bytes the file has, or the refusal
abbrev pub WriteAnswer : Type 0
WriteAnswer = Result ℕ Refusal

-- the file's length, or the refusal
unfoldable pub write_answer : Job → ℕ → WriteAnswer
write_answer job room = if_accepted (first_of (write_tests job room)) Err (Ok (length (file_of job)))

-- the numbers of an answer: the refusal's number and detail, 0 and 0 where there is none, then the file's length, 0 if refused
unfoldable pub written_numbers : WriteAnswer → List ℕ
written_numbers (Ok n) = 0 ∷ 0 ∷ n ∷ []
written_numbers (Err r) = number_of r ∷ detail_of r ∷ 0 ∷ []

-- the same numbers, from what the tests say
unfoldable pub write_values : Job → ℕ → List ℕ
write_values job room =
    if_accepted (first_of (write_tests job room)) (λ r. number_of r ∷ detail_of r ∷ 0 ∷ []) (0 ∷ 0 ∷ length (file_of job) ∷ [])

-- the first places are the file, and the others keep their values, as all do after a refusal
unfoldable pub write_bytes : Job → List ℕ → List ℕ
write_bytes job before = if_accepted (first_of (write_tests job (length before))) (λ r. before) (in_front (file_of job) before)

-- what `write` promises of its answer r and of the byte buffer after it
pub record WriteCall (job : Job) (before : List ℕ) (r : WriteAnswer) (after : List ℕ) : Type 0 where
  pub answer : r ≡ write_answer job (length before)
  pub numbers : written_numbers r ≡ write_values job (length before)
  pub file : after ≡ write_bytes job before
