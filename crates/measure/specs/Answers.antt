-- What the listing call answers, and what it leaves in the lent buffer, after the intake that it shares with measuring: docs/SCOPE.md,
-- 'Corner points' and 'When a job is refused'. `ListCall` is the promise of the call.
use Rattle.std.specs.Prelude.{◌≡◌, List, [], ◌∷◌, ◌++◌, ◌⊎◌, ℕ, ◌*◌, ◌≤◌, ◌<◌, length}
use Rattle.job.specs.Job.{Job}
use Rattle.lattice.specs.Cells.{Cells}
use Rattle.lattice.specs.Listing.{corner_count, listing}
use Rattle.refusals.specs.Tests.{length_test, if_accepted, Test, first_of}
use Rattle.refusals.specs.declared.Refusal.{Refusal}
use Rattle.refusals.specs.declared.Refusal.TheVariants.{ShortListing}
use Rattle.measure_intake.specs.Intake.{solid, measure_tests, answer_of, MeasuredNumbers, measured_numbers, numbers_after, work_after, MeasureAccepts, MeasureRefuses, Measured}
use Rattle.buffer.specs.Wrote.{in_front}
use Rattle.refusals.specs.Deciding.{Gives}
use Rattle.refusals.specs.Refusals.{Checked}

-- ---- the checks
-- refusal 11: a listing buffer of so many bytes is shorter than 7 times the corner count
abbrev pub short_listing : ℕ → Cells → ℕ → Test
short_listing F s room = length_test room (7 * corner_count F s) (ShortListing (corner_count F s))

-- the tests of listing: those of measuring, and then 11
unfoldable pub list_tests : Job → ℕ → ℕ → List Test
list_tests job entries room = measure_tests job entries ++ short_listing job.field (solid job) room ∷ []

abbrev pub list_checked : Job → ℕ → ℕ → Checked
list_checked job entries room = first_of (list_tests job entries room)

-- the test of the buffer alone
abbrev pub room_checked : ℕ → Cells → ℕ → Checked
room_checked F s room = first_of (short_listing F s room ∷ [])

-- ---- what is answered and left
unfoldable pub list_answer : Job → ℕ → ℕ → Measured
list_answer job entries room = answer_of (list_checked job entries room) job.field (solid job)

unfoldable pub list_numbers : Job → ℕ → ℕ → MeasuredNumbers
list_numbers job entries room = numbers_after (list_checked job entries room) job.field (solid job)

-- the buffer: the listing, and the bytes after the last record as they were
unfoldable pub listing_after : Job → ℕ → List ℕ → List ℕ
listing_after job entries buffer =
    if_accepted (list_checked job entries (length buffer)) (λ r. buffer) (in_front (listing job.field (solid job)) buffer)

-- ---- the promises
-- listing the cells of an accepted list: refusal 11, or the totals and the listing
pub record CornersListed (F : ℕ) (s : Cells) (buffer : List ℕ) (r : Measured) (buffer' : List ℕ) : Type 0 where
  pub answer : r ≡ answer_of (room_checked F s (length buffer)) F s
  pub listing : buffer' ≡ if_accepted (room_checked F s (length buffer)) (λ r. buffer) (in_front (listing F s) buffer)

-- listing a list
pub record ListCall (job : Job) (work buffer : List ℕ) (r : Measured) (work' buffer' : List ℕ) : Type 0 where
  pub answer : r ≡ list_answer job (length work) (length buffer)
  pub numbers : measured_numbers r ≡ list_numbers job (length work) (length buffer)
  pub index : work' ≡ work_after job work
  pub listing : buffer' ≡ listing_after job (length work) buffer

-- ---- when a list is accepted, and when it is refused
abbrev pub ListAccepts : Job → ℕ → ℕ → Type 0
ListAccepts job entries room = MeasureAccepts job entries × (7 * corner_count job.field (solid job) ≤ room)

-- as measuring does; by 11 if measuring accepts and the buffer is short
abbrev pub ListRefuses : Job → ℕ → ℕ → Refusal → Type 0
ListRefuses job entries room r =
    MeasureRefuses job entries r
    ⊎ (MeasureAccepts job entries
    × Gives (room < 7 * corner_count job.field (solid job)) (ShortListing (corner_count job.field (solid job))) r)
