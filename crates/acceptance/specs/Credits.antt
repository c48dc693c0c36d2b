-- Request (iv), of the credits: each shot has the number of cells of which it is the lowest covering shot; they sum to the volume; a repeat
-- of an earlier shot has none; another order never moves the sum; shots without credit can be left out. docs/SCOPE.md, 'Credits'.
use Rattle.std.specs.Prelude.{◌≡◌, List, ℕ, ◌<◌, get_or, drop, Ok}
use Rattle.ground.specs.Sums.{total}
use Rattle.lattice.specs.Cells.{volume}
use Rattle.lattice_sums.specs.declared.sums.Totals.{Totals}
use Rattle.job.specs.Job.{Job, shot, shot_count}
use Rattle.measure_intake.specs.Intake.{solid}
use Rattle.measure.specs.Agreement.{Among}
use Rattle.crediting.specs.Credits.{credit_of}
use Rattle.crediting.specs.LeavingOut.{KeepsCredited}
use Rattle.acceptance.specs.Grids.{SameListing}
use Rattle.acceptance.specs.declared.credits.TwoChecked.{TwoChecked}
use Rattle.acceptance.specs.declared.credits.CreditedLists.{CreditedLists}
use Rattle.refusals.specs.Refusals.{Checked}

-- the credits of a list's shots, which stand in front of the credit slice, summed
abbrev pub credit_sum : Job → List ℕ → ℕ
credit_sum job credits = total (shot_count job.coords) λ s. get_or credits s 0

-- of an accepted list
pub record CreditsRight (job : Job) (credits credits' : List ℕ) : Type 0 where
  pub credit : (s : ℕ) → s < shot_count job.coords → get_or credits' s 0 ≡ credit_of job.field job.edge job.coords s
  pub sum : credit_sum job credits' ≡ volume job.field (solid job)
  pub repeat : (s t : ℕ) → s < shot_count job.coords → t < s → shot job t ≡ shot job s → get_or credits' s 0 ≡ 0
  pub others : drop (shot_count job.coords) credits' ≡ drop (shot_count job.coords) credits

abbrev pub Credited : Job → List ℕ → Checked → List ℕ → Type 0
Credited job credits r credits' = r ≡ Ok tt → CreditsRight job credits credits'

-- of two lists in one field of which each has every shot of the other
abbrev pub SumsAlike : Job → Job → TwoChecked → List ℕ → List ℕ → Type 0
SumsAlike one two r credits' credits₂' =
    r.one ≡ Ok tt → r.two ≡ Ok tt → Among one two → Among two one → credit_sum one credits' ≡ credit_sum two credits₂'

-- of a list, and one of its shots that leaves out none with credit: totals and listing stay
abbrev pub LeftOut : Job → Job → CreditedLists → List ℕ → List ℕ → List ℕ → Type 0
LeftOut one two r credits' buffer' buffer₂' =
    r.credited ≡ Ok tt → KeepsCredited credits' one two
    → (t t₂ : Totals) → r.one ≡ Ok t → r.two ≡ Ok t₂ → SameListing t buffer' t₂ buffer₂'
