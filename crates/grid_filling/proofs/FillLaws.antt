-- The turns of the loop that puts the cells of a row into a work slice; what narrowing a slab and a row gives.
use mathlib.Core.Path.{◌≡◌, sym, ap}
use mathlib.Core.List.{List}
use Prim.Native.Nat.{ℕ, ◌+◌, ◌-◌, ◌*◌, ◌/◌, ◌≤◌, ◌<◌}
use native.Mathlib.Nat.{add-zero, add_assoc}
use native.Mathlib.Omega.{arith}
use lib.ListN.{length, set}
use Rattle.job.specs.Job.{Job, shot_count, Valid}
use Rattle.buffer.specs.Wrote.{Wrote}
use Rattle.ground.specs.Numbers.{up_to, AllBelow}
use Rattle.grid.specs.declared.intervals.Axis.TheVariants.{X, Y, Z}
use Rattle.grid.specs.Grid.{grid_cells, meets_on, run_of, row_of, slab_of}
use Rattle.grid_filling.specs.Filling.{narrowed, Ready, Grew}
use Rattle.ground.proofs.NumberLaws.{up_to-length, those-length, below-up_to}
use Rattle.ground.proofs.Digits.{digits-below}
use Rattle.grid.proofs.CellLaws.{square-most, cube-most, slab-few}
use Rattle.grid_filling.proofs.StoreLaws.{grew_none, grew-cell, grew_then, ready-after, ready-room}
use Rattle.grid_filling.proofs.NarrowLaws.{slab-narrow, row-narrow, run-narrow, slab-below, row_below, place-fits}

-- ---- the cells of a row

module _ (job : Job) (v : Valid job) (line : ℕ) (within : line < job.grid * job.grid) where
  open job use {field as F, edge as E, grid as G, coords}

  cell_below : (gz : ℕ) → gz < G → line * G + gz < grid_cells job
  cell_below gz h = digits-below G line gz h (G * G) within

  pub cell-number : (gz : ℕ) → gz < G → line * G + gz < 262144
  cell-number gz h = omega (arith, cell_below gz h, cube-most G v.grid_most)

  module _ {at : ℕ} {w₀ : List ℕ} (p : Ready (run_of job) (grid_cells job) (line * G) at w₀) where
    pub cells-none : Grew (run_of job) (grid_cells job) (line * G) (line * G + 0) w₀ w₀ at
    cells-none = rw (add-zero (line * G)) (grew_none (run_of job) (grid_cells job) (line * G) at w₀ p)

    module _ (row : List ℕ) (is : row ≡ row_of job line) (gz : ℕ) (h : gz < G) {w : List ℕ} {next : ℕ} (a : Grew (run_of job) (grid_cells job) (line * G) (line * G + gz) w₀ w next) where
      ready : Ready (run_of job) (grid_cells job) (line * G + gz) next w
      ready = ready-after (run_of job) (grid_cells job) p a

      run_is : run_of job (line * G + gz) ≡ narrowed Z (F / G) gz E coords row
      run_is = rw is (run-narrow job line gz h)

      pub cell-asked : {cells room : ℕ} → cells ≡ grid_cells job → length row ≤ room → (line * G + gz < cells + 1) × (cells + 1 ≤ next × (next < 4294967296 × (AllBelow (shot_count coords) row × (length row ≤ room × next + length (narrowed Z (F / G) gz E coords row) ≤ length w))))
      cell-asked e fits = (
        omega (arith, cell_below gz h),
        (
          omega (arith, ready.next),
          (
            place-fits job v (line * G + gz) next (omega (arith, cell_below gz h)) ready,
            (
              rw is (row_below job line),
              (fits, omega (arith, ready-room (run_of job) (grid_cells job) (line * G + gz) (cell_below gz h) ready, ap length run_is)),
            ),
          ),
        ),
      )

      pub cell-turn : {cells r : ℕ} {w' : List ℕ} → cells ≡ grid_cells job → Wrote (set w (line * G + gz) (next - (cells + 1))) w' next r (narrowed Z (F / G) gz E coords row) → Grew (run_of job) (grid_cells job) (line * G) (line * G + (gz + 1)) w₀ w' r
      cell-turn {cells} {r} {w'} e b =
          rw (← add_assoc (line * G) gz 1)
          (grew_then (run_of job) (grid_cells job) a (grew-cell (run_of job) (grid_cells job) (line * G + gz) next (cell_below gz h) ready (rw (e, ← run_is) at b)))

-- ---- the rows of a slab

module _ (job : Job) (v : Valid job) (gx : ℕ) (within : gx < job.grid) where
  open job use {field as F, edge as E, grid as G, coords}

  pub line-below : (gy : ℕ) → gy < G → gx * G + gy < G * G
  line-below gy h = digits-below G gx gy h G within

  pub line-number : (gy : ℕ) → gy < G → gx * G + gy < 4096
  line-number gy h = omega (arith, line-below gy h, square-most G v.grid_most)

  pub row-asked : (slab : List ℕ) {room : ℕ} → slab ≡ slab_of job gx → 4096 ≤ room → AllBelow (shot_count coords) slab × length slab ≤ room
  row-asked slab is h = (rw is (slab-below job gx), omega (arith, ap length is, slab-few job v gx))

  pub row-few : (gy : ℕ) (slab : List ℕ) → slab ≡ slab_of job gx → length (narrowed Y (F / G) gy E coords slab) ≤ 4096
  row-few gy slab is = omega (arith, those-length (meets_on Y (F / G) gy E coords) slab, ap length is, slab-few job v gx)

  pub row_is : (gy : ℕ) → gy < G → (slab : List ℕ) → slab ≡ slab_of job gx → narrowed Y (F / G) gy E coords slab ≡ row_of job (gx * G + gy)
  row_is gy h slab is = rw is (sym (row-narrow job gx gy h))

  pub slab-asked : (all : List ℕ) → all ≡ up_to (shot_count coords) → AllBelow (shot_count coords) all × length all ≤ 4096
  slab-asked all is = (rw is (below-up_to (shot_count coords)), omega (arith, ap length is, up_to-length (shot_count coords), v.few))

  pub slab-is : (all : List ℕ) → all ≡ up_to (shot_count coords) → narrowed X (F / G) gx E coords all ≡ slab_of job gx
  slab-is all is = rw is (sym (slab-narrow job gx))
