-- Requests (iii) and (iv), of the cover test: it names the first shot of a run that covers a cell, or says that there is none; asked with the
-- run of the grid cell that holds the cell, that is the lowest of the list's shots. docs/SCOPE.md, 'The grid index' and 'Credits'.
use Rattle.std.specs.Prelude.{◌≡◌, true, false, List, ℕ, ◌<◌, length, get_or, Option, Some, None}
use Rattle.lattice.specs.Shots.{covers}
use Rattle.job.specs.Job.{Job, shot, shot_count}
use Rattle.grid_cover.specs.Cover.{shot_covers}
use Rattle.measure_intake.specs.Intake.{solid, MeasureAccepts}

-- ---- any run
-- shot s stands at place n of the run and covers the cell (i, j, k), and no earlier one does
pub record FirstAt (E : ℕ) (coords run : List ℕ) (i j k s n : ℕ) : Type 0 where
  pub in_run : n < length run
  pub is : get_or run n 0 ≡ s
  pub covering : shot_covers E coords s i j k ≡ true
  pub none_before : (m : ℕ) → m < n → shot_covers E coords (get_or run m 0) i j k ≡ false

pub record FirstNamed (E : ℕ) (coords run : List ℕ) (i j k : ℕ) (r : Option ℕ) : Type 0 where
  pub shot : (s : ℕ) → r ≡ Some s → (n : ℕ) × FirstAt E coords run i j k s n
  pub nothing : r ≡ None → (m : ℕ) → m < length run → shot_covers E coords (get_or run m 0) i j k ≡ false

-- ---- the run of an index
-- shot s is the lowest that covers the cell (i, j, k)
pub record Lowest (job : Job) (i j k s : ℕ) : Type 0 where
  pub is_shot : s < shot_count job.coords
  pub covering : covers (shot job s) i j k ≡ true
  pub none_lower : (t : ℕ) → t < s → covers (shot job t) i j k ≡ false

-- of a list that is accepted, and a cell of its field
pub record LowestNamed (job : Job) (i j k : ℕ) (r : Option ℕ) : Type 0 where
  pub shot : (s : ℕ) → r ≡ Some s → Lowest job i j k s
  pub nothing : r ≡ None → solid job i j k ≡ false

-- a cell of the field
pub record InField (F i j k : ℕ) : Type 0 where
  pub x_in : i < F
  pub y_in : j < F
  pub z_in : k < F

abbrev pub Covered : Job → ℕ → ℕ → ℕ → ℕ → Option ℕ → Type 0
Covered job entries i j k r = MeasureAccepts job entries → InField job.field i j k → LowestNamed job i j k r
