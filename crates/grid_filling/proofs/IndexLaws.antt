-- The index of a list: what it needs, that a filled slice holds it, and the runs read from it.
use mathlib.Core.Path.{◌≡◌, sym, ap, ◌∙◌, fun_ext}
use mathlib.Core.List.{List}
use Prim.Native.Nat.{ℕ, ◌+◌, ◌-◌, ◌≤◌}
use native.Mathlib.Nat.{le_refl}
use native.Mathlib.Omega.{arith}
use lib.ListN.{length, take, set, length-append}
use mir.Val.{Fits}
use mir.Syntax.{w32}
use Rattle.ground.specs.Sums.{total, join}
use Rattle.ground.specs.Numbers.{up_to}
use Rattle.job.specs.Job.{Job, shot, shot_count, Valid}
use Rattle.grid.specs.Grid.{touches_cell, run_of, starts, index_of, pairs, need, grid_cells}
use Rattle.buffer.specs.Wrote.{in_front}
use Rattle.grid_filling.specs.Filling.{run_place, Ready, Grew}
use Rattle.ground.proofs.JoinLaws.{length-join}
use Rattle.ground.proofs.NumberLaws.{up_to-length, up_to-front, those-count}
use Rattle.grid.proofs.CellLaws.{runs-few}
use Rattle.grid.proofs.StartLaws.{starts-length}
use Rattle.grid_filling.proofs.StoreLaws.{runs-in-none, index-whole}

-- ---- the need

module _ (job : Job) where
  open job use {field as F, grid as G, coords}

  -- the pairs are the entries of the runs
  pairs-runs : pairs job ≡ length (join (grid_cells job) (run_of job))
  unfolding pairs run_of
  pairs-runs =
      sym (length-join (grid_cells job) (run_of job) ∙ ap (total (grid_cells job)) (fun_ext λ cell. those-count (λ i. touches_cell F G cell (shot job i)) (shot_count coords)))

  pub need-place : need job ≡ run_place (run_of job) (grid_cells job) (grid_cells job)
  unfolding need
  need-place = ap (λ (n : ℕ). grid_cells job + 1 + n) pairs-runs

  -- the need is the length of the index
  need-length : need job ≡ length (index_of job)
  unfolding index_of
  need-length =
      omega (arith, need-place, length-append (starts (run_of job) (grid_cells job + 1)) (join (grid_cells job) (run_of job)), starts-length (run_of job) (grid_cells job + 1))

-- ---- a filled slice

pub up_to-part : (n : ℕ) {all : List ℕ} → n ≤ 4096 → all ≡ up_to 4096 → take n all ≡ up_to n
up_to-part n h e = rw e (up_to-front n 4096 h)

pub up_to-part-count : (n : ℕ) {all : List ℕ} → n ≤ 4096 → all ≡ up_to 4096 → n ≡ length (take n all)
up_to-part-count n h e = sym (ap length (up_to-part n h e) ∙ up_to-length n)

module _ (job : Job) (w : List ℕ) (room : need job ≤ length w) where
  open job use {grid as G}

  pub build-ready : {cells : ℕ} → cells ≡ grid_cells job → Ready (run_of job) (grid_cells job) 0 (cells + 1) w
  unfolding join
  build-ready e = record { next = omega arith; room = omega (arith, need-place job) }

  pub build-fits : Valid job → {cells r : ℕ} {w' : List ℕ} → cells ≡ grid_cells job → Grew (run_of job) (grid_cells job) 0 (grid_cells job) w w' r → Fits w32 (r - (cells + 1))
  build-fits v e a = record { fits = omega (arith, a.next, runs-few job v (grid_cells job) (le_refl (grid_cells job))) }

  pub build-last : {cells r : ℕ} {w' : List ℕ} → cells ≡ grid_cells job → Grew (run_of job) (grid_cells job) 0 (grid_cells job) w w' r → set w' cells (r - (cells + 1)) ≡ in_front (index_of job) w
  unfolding index_of
  build-last {cells} {r} {w'} e a =
      let last : r - (cells + 1) ≡ length (join (grid_cells job) (run_of job)) = omega (arith, a.next) in
      rw (last, e, ← need-length job, need-place job)
      (index-whole (run_of job) (grid_cells job) w w' (a.fills w (runs-in-none (run_of job) (grid_cells job) w (omega (arith, need-place job)))))
