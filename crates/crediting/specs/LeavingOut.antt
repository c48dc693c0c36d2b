-- Which shots may be left out of a list, by their credits: docs/SCOPE.md, 'Credits'. proofs/CreditTheorems.antt says what that changes.
use Rattle.std.specs.Prelude.{◌≡◌, true, List, ℕ, ◌<◌, get_or}
use Rattle.lattice.specs.Shots.{covers}
use Rattle.job.specs.Job.{Job, shot, shot_count}
use Rattle.measure.specs.Agreement.{Among}

-- each cell that shot s covers is covered by an earlier one
abbrev pub Hidden : Job → ℕ → Type 0
Hidden job s = (i j k : ℕ) → covers (shot job s) i j k ≡ true → (t : ℕ) × (t < s) × (covers (shot job t) i j k ≡ true)

-- with these credits of the first list: every shot of the second is one of the first, and every shot of the first whose credit is not 0 is
-- one of the second
pub record KeepsCredited (credits : List ℕ) (one two : Job) : Type 0 where
  pub from_first : Among two one
  pub credited : (s : ℕ) → s < shot_count one.coords → (get_or credits s 0 ≡ 0 → ⊥) → (j : ℕ) × (j < shot_count two.coords) × (shot one s ≡ shot two j)
