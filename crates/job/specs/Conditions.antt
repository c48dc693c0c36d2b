-- When the tests of a list refuse it, in words of numbers: docs/SCOPE.md, 'When a job is refused', 1, 2 and 6 to 9.
use Rattle.std.specs.Prelude.{◌≡◌, List, ◌⊎◌, ℕ, ◌%◌, ◌<◌, length}
use Rattle.lattice.specs.Shots.{InField}
use Rattle.refusals.specs.declared.Refusal.{Refusal}
use Rattle.refusals.specs.declared.Refusal.TheVariants.{BrokenShot, TooManyShots, FieldRange, EdgeRange, GridRange, OutsideField}
use Rattle.job.specs.Job.{Job, shot, shot_count}
use Rattle.refusals.specs.Tests.{Test}
use Rattle.refusals.specs.Deciding.{Each}

-- this shot leaves the field, and no earlier one does
pub record FirstOutside (job : Job) (n : ℕ) : Type 0 where
  pub is_shot : n < shot_count job.coords
  pub leaves_field : ¬ InField job.field (shot job n)
  pub earlier_stay : (i : ℕ) → i < n → InField job.field (shot job i)

-- the condition of each refusal of a list, with its detail; the checks of a list give no other refusals
pub data Condition (job : Job) : Refusal → Type 0 where
  broken_shot : ¬ (length job.coords % 3 ≡ 0) → Condition job BrokenShot
  too_many_shots : 4096 < shot_count job.coords → Condition job (TooManyShots 0)
  field_range : (job.field < 1) ⊎ (1024 < job.field) → Condition job FieldRange
  edge_range : (job.edge < 1) ⊎ (job.field < job.edge) → Condition job EdgeRange
  grid_range : (job.grid < 1) ⊎ ((64 < job.grid) ⊎ ¬ (job.field % job.grid ≡ 0)) → Condition job GridRange
  outside_field : {n : ℕ} → FirstOutside job n → Condition job (OutsideField n)

-- the condition of no test of a list holds
abbrev pub None : Job → List Test → Type 0
None job ts = Each (λ t. ¬ Condition job t.gives) ts
