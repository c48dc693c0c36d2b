-- The runs of a valid list are few.
use Rattle.std.proofs.Common.{ℕ, ◌*◌, ◌/◌, ◌≤◌, length, mul-le-mul, arith}
use Rattle.ground.specs.Sums.{join}
use Rattle.job.specs.Job.{Job, shot, shot_count, Valid}
use Rattle.ground.specs.Numbers.{up_to}
use Rattle.grid.specs.Grid.{grid_cells, touches_cell, touches_slab, run_of, slab_of}
use Rattle.ground.proofs.JoinLaws.{join-length-most, join-length-up}
use Rattle.ground.proofs.NumberLaws.{up_to-length, those-length}

pub square-most : (g : ℕ) → g ≤ 64 → g * g ≤ 4096
square-most g h = mul-le-mul h h

pub cube-most : (g : ℕ) → g ≤ 64 → g * g * g ≤ 262144
cube-most g h = mul-le-mul (square-most g h) h

module _ (job : Job) (v : Valid job) where
  open job use {field as F, grid as G, coords}

  pub run-few : (cell : ℕ) → length (run_of job cell) ≤ 4096
  unfolding run_of
  run-few cell = omega (arith, those-length (λ i. touches_cell F G cell (shot job i)) (up_to (shot_count coords)), up_to-length (shot_count coords), v.few)

  pub slab-few : (gx : ℕ) → length (slab_of job gx) ≤ 4096
  unfolding slab_of
  slab-few gx = omega (arith, those-length (λ i. touches_slab (F / G) gx (shot job i)) (up_to (shot_count coords)), up_to-length (shot_count coords), v.few)

  pub runs-few : (c : ℕ) → c ≤ grid_cells job → length (join c (run_of job)) ≤ 1073741824
  runs-few c h =
      omega (arith, join-length-up (run_of job) c (grid_cells job) h, join-length-most (run_of job) 4096 run-few (grid_cells job), cube-most G v.grid_most)
