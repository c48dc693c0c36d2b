-- A job: a list with its settings, and the door to its shots. docs/SCOPE.md, 'The job'.
use Rattle.std.specs.Prelude.{◌≡◌, List, [], ◌∷◌, ℕ, ◌+◌, ◌*◌, ◌/◌, ◌%◌, ◌≤◌, length, get_or, take}
use Rattle.lattice.specs.Shots.{Shot, AllInField}
use Rattle.job.specs.declared.Job.{Job as Lent}

-- a list with its settings: field side F, shot edge E, grid size G, and the coordinates, three numbers a shot
pub record Job : Type 0 where
  pub field : ℕ
  pub edge : ℕ
  pub grid : ℕ
  pub coords : List ℕ

abbrev pub job_of : ℕ → ℕ → ℕ → List ℕ → Job
job_of F E G coords = record { field = F; edge = E; grid = G; coords = coords }

-- the job that a list is as code has it, with its coordinates lent
abbrev pub seen : Lent → Job
seen j = record { field = j.field; edge = j.edge; grid = j.grid; coords = j.coords.now }

-- the same list in another grid
abbrev pub with_grid : ℕ → Job → Job
with_grid G job = job_of job.field job.edge G job.coords

-- the shots of a coordinate list: today every shot has the list's edge
unfoldable pub shots_of : ℕ → List ℕ → List Shot
shots_of e [] = []
shots_of e (x ∷ []) = []
shots_of e (x ∷ y ∷ []) = []
shots_of e (x ∷ y ∷ z ∷ rest) = record { x = x; y = y; z = z; edge = e } ∷ shots_of e rest

-- how many shots there are, or how many there is place for
abbrev pub shot_count : List ℕ → ℕ
shot_count coords = length coords / 3

-- the place of the first number of shot i, from 0
abbrev pub place_of : ℕ → ℕ
place_of i = 3 * i

-- the numbers of shot i: x, y, z, and its edge, today the list's
abbrev pub x_at : List ℕ → ℕ → ℕ
x_at coords i = get_or coords (3 * i) 0

abbrev pub y_at : List ℕ → ℕ → ℕ
y_at coords i = get_or coords (3 * i + 1) 0

abbrev pub z_at : List ℕ → ℕ → ℕ
z_at coords i = get_or coords (3 * i + 2) 0

abbrev pub edge_at : ℕ → List ℕ → ℕ → ℕ
edge_at e coords i = e

-- shot i
abbrev pub shot_at : ℕ → List ℕ → ℕ → Shot
shot_at e coords i = record { x = x_at coords i; y = y_at coords i; z = z_at coords i; edge = edge_at e coords i }

-- the numbers that say a shot
abbrev pub numbers_of : ℕ → ℕ → ℕ → List ℕ
numbers_of x y z = x ∷ y ∷ z ∷ []

-- the first n shots of a coordinate list
abbrev pub first_shots : ℕ → List ℕ → List ℕ
first_shots n coords = take (place_of n) coords

-- the shots of a job, and shot i of it; what stands above does not ask where a shot's edge comes from
abbrev pub shots : Job → List Shot
shots job = shots_of job.edge job.coords

abbrev pub shot : Job → ℕ → Shot
shot job i = shot_at job.edge job.coords i

-- a valid job: F is 1 to 1,024, E is 1 to F, G is 1 to 64 and divides F, there are 0 to 4,096 shots, and each stays in the field
pub record Valid (job : Job) : Type 0 where
  pub threes : length job.coords % 3 ≡ 0
  pub few : length job.coords / 3 ≤ 4096
  pub field_least : 1 ≤ job.field
  pub field_most : job.field ≤ 1024
  pub edge_least : 1 ≤ job.edge
  pub edge_most : job.edge ≤ job.field
  pub grid_least : 1 ≤ job.grid
  pub grid_most : job.grid ≤ 64
  pub grid_divides : job.field % job.grid ≡ 0
  pub inside : AllInField job.field (shots job)
