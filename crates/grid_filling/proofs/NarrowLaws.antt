-- A run is found by narrowing a slab to a row and a row to a cell; the places of the runs fit an entry.
use mathlib.Core.Path.{◌≡◌, refl, sym, ◌∙◌}
use mathlib.Core.Bool.{Bool, ◌&&◌, and_assoc}
use mathlib.Core.List.{List}
use Prim.Native.Nat.{ℕ, ◌+◌, ◌*◌, ◌/◌, ◌%◌, ◌≤◌, ◌<◌}
use native.Mathlib.Omega.{arith}
use Rattle.job.specs.Job.{Job, shot_count, Valid}
use Rattle.ground.specs.Numbers.{up_to, AllBelow}
use Rattle.grid.specs.declared.intervals.Axis.TheVariants.{X, Y, Z}
use Rattle.grid.specs.Grid.{grid_cells, meets_on, run_of, row_of, slab_of}
use Rattle.grid_filling.specs.Filling.{narrowed, Ready}
use Rattle.ground.proofs.NumberLaws.{those-those, those-agree, below-up_to, below-those}
use Rattle.ground.proofs.Digits.{digit-high, digit_low}
use Rattle.grid.proofs.CellLaws.{cube-most, runs-few}

module _ (job : Job) where
  open job use {field as F, edge as E, grid as G, coords}

  pub slab-narrow : (gx : ℕ) → slab_of job gx ≡ narrowed X (F / G) gx E coords (up_to (shot_count coords))
  unfolding slab_of
  slab-narrow gx = refl

  pub row-narrow : (gx gy : ℕ) → gy < G → row_of job (gx * G + gy) ≡ narrowed Y (F / G) gy E coords (slab_of job gx)
  unfolding row_of slab_of
  row-narrow gx gy h = rw (digit-high G gx gy h, digit_low G gx gy h) (sym (those-those _ _ (up_to (shot_count coords))))

  pub run-narrow : (line gz : ℕ) → gz < G → run_of job (line * G + gz) ≡ narrowed Z (F / G) gz E coords (row_of job line)
  unfolding run_of row_of
  run-narrow line gz h =
      rw (digit-high G line gz h, digit_low G line gz h)
      (sym (those-those row cell (up_to (shot_count coords)) ∙ those-agree _ _ (shot_count coords) λ i l. and_assoc (meets_on X (F / G) (line / G) E coords i) (meets_on Y (F / G) (line % G) E coords i) (cell i)))
    where
      row : ℕ → Bool
      row i = meets_on X (F / G) (line / G) E coords i && meets_on Y (F / G) (line % G) E coords i

      cell : ℕ → Bool
      cell = meets_on Z (F / G) gz E coords

  -- slabs and rows name shots of the list
  pub slab-below : (gx : ℕ) → AllBelow (shot_count coords) (slab_of job gx)
  unfolding slab_of
  slab-below gx = below-those (shot_count coords) _ (up_to (shot_count coords)) (below-up_to (shot_count coords))

  pub row_below : (line : ℕ) → AllBelow (shot_count coords) (row_of job line)
  unfolding row_of
  row_below line = below-those (shot_count coords) _ (up_to (shot_count coords)) (below-up_to (shot_count coords))

module _ (job : Job) (v : Valid job) where
  open job use {grid as G}

  pub place-fits : (c at : ℕ) {w : List ℕ} → c ≤ grid_cells job → Ready (run_of job) (grid_cells job) c at w → at < 4294967296
  place-fits c at h p = omega (arith, p.next, runs-few job v c h, cube-most G v.grid_most)
