-- Request (ii): a file whose header leaves out the grid says 16, and the writer leaves out 16 and no other; the totals and the listing of a
-- list are the same in any two grids. docs/SCOPE.md, 'Shot file' and 'The grid index'.
use Rattle.std.specs.Prelude.{◌≡◌, List, ◌↔◌, ℕ, ◌*◌, ◌/◌, ◌%◌, get_or, take, Ok}
use Rattle.job.specs.Job.{Job}
use Rattle.job.specs.declared.Stored.{Stored}
use Rattle.shotfile_reader.specs.Calls.{ReadAnswer}
use Rattle.lattice_sums.specs.declared.sums.Totals.{Totals}
use Rattle.acceptance.specs.declared.grids.Both.{Both}
use Rattle.shotfile_writer.specs.Calls.{WriteAnswer}

-- two lists that are both accepted have the same totals and the same listing bytes
pub record SameListing (t : Totals) (buffer' : List ℕ) (t₂ : Totals) (buffer₂' : List ℕ) : Type 0 where
  pub totals : t ≡ t₂
  pub bytes : take (7 * t.corners) buffer' ≡ take (7 * t₂.corners) buffer₂'

abbrev pub ListedAlike : Both → List ℕ → List ℕ → Type 0
ListedAlike r buffer' buffer₂' = (t t₂ : Totals) → r.one ≡ Ok t → r.two ≡ Ok t₂ → SameListing t buffer' t₂ buffer₂'

-- the header, whose map is the first byte, leaves out the grid: bit 2 is not set
abbrev pub NoGrid : List ℕ → Type 0
NoGrid bytes = get_or bytes 0 0 / 4 % 2 ≡ 0

-- of a file that is read
abbrev pub GridRead : List ℕ → ReadAnswer → Type 0
GridRead bytes r = NoGrid bytes → (list : Stored) → r ≡ Ok list → list.grid ≡ 16

-- of a list that is written
abbrev pub GridWritten : Job → WriteAnswer → List ℕ → Type 0
GridWritten job r bytes' = (n : ℕ) → r ≡ Ok n → NoGrid bytes' ↔ (job.grid ≡ 16)
