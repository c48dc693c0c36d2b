-- The pattern of a lattice point through the run of a grid cell whose closed box holds it.
use mathlib.Core.Path.{◌≡◌, refl, sym, ap, ◌∙◌, fun_ext}
use mathlib.Core.Bool.{Bool, true, false}
use mathlib.Core.List.{List}
use Prim.Native.Nat.{ℕ, zero, suc, ◌+◌, ◌-◌, ◌*◌, ◌/◌, ◌≤◌, ◌<◌}
use native.Mathlib.Nat.{add-zero, add_assoc, zero-mul, add-mul, one-mul, mul-le-mul_right}
use native.Mathlib.Numerals.{add-one}
use native.Mathlib.Omega.{arith}
use lib.ListN.{length}
use Rattle.std.specs.Int.{from_bool}
use Rattle.ground.specs.Numbers.{bit, up_to, those, AllBelow}
use Rattle.lattice.specs.Cells.{Cells, below}
use Rattle.lattice.specs.Pattern.{around, byte, of_byte}
use Rattle.lattice.specs.Shots.{cells}
use Rattle.lattice.proofs.PatternLaws.{of_byte-byte}
use Rattle.lattice_sums.specs.declared.sums.Totals.{Totals}
use Rattle.job.specs.Job.{Job, shots, shot_count, Valid}
use Rattle.grid.specs.Grid.{run_of, between, Starts, Holds}
use Rattle.grid_cover.specs.Cover.{run_covers}
use Rattle.ground.proofs.NumberLaws.{below-up_to, below-those}
use Rattle.ground.proofs.Digits.{digits-below}
use Rattle.grid.proofs.CellLaws.{square-most, cube-most, run-few}
use Rattle.grid.proofs.ShotLaws.{width-times}
use Rattle.grid_runs.proofs.ReadLaws.{holds-starts, holds-run}
use Rattle.grid_cover.proofs.CoverLaws.{run_none}
use Rattle.grid_cover.proofs.CoverRuns.{OnInterval, run-around}
use Rattle.measure_tallies.specs.Tallies.{at_pattern, plus}
use Rattle.measure_lines.specs.Lines.{reaches_line}
use Rattle.measure_cells.specs.Points.{line_to, line_from, quad, InInterval, PointsInInterval}
use Rattle.measure_lines.proofs.LineLaws.{narrowed-around}
use Rattle.measure_cells.proofs.SumLaws.{sums_none, sums-turn, sums-add, sum-agree}

-- ---- the cell that ends at a point

-- whether it is covered, as a number
pub bit-told : {p : ℕ} {t b : Bool} → p ≡ from_bool t → t ≡ b → (p ≡ bit b) × (p ≤ 1)
bit-told {t = true} e is = (e ∙ ap bit is, omega (arith, e))
bit-told {t = false} e is = (e ∙ ap bit is, omega (arith, e))

-- ---- the eight cells as a byte

module _ (s : Cells) (x y z : ℕ) where
  pub quad_is : {p q r u : ℕ} → p ≡ bit (below s x y z) → q ≡ bit (below s x (y + 1) z) → r ≡ bit (below s (x + 1) y z) → u ≡ bit (below s (x + 1) (y + 1) z) → p + 4 * q + 16 * r + 64 * u ≡ quad s x y z
  quad_is ep eq er eu = rw (ep, eq, er, eu, add-one x, add-one y)

  byte-is : {l h : ℕ} → l ≡ quad s x y z → h ≡ quad s x y (z + 1) → l + 2 * h ≡ byte (around s x y z)
  unfolding byte
  byte-is el eh = rw (el, eh, add-one z) (omega arith)

  pattern_is : {l h : ℕ} → l ≡ quad s x y z → h ≡ quad s x y (z + 1) → of_byte (l + 2 * h) ≡ around s x y z
  pattern_is el eh = ap of_byte (byte-is el eh) ∙ of_byte-byte (around s x y z)

-- points of a line, one after the other: what is above a point is below the next
module _ (s : Cells) (x y from : ℕ) where
  pub points-start : {q : ℕ} → q ≡ quad s x y from → q ≡ quad s x y (from + 0)
  points-start e = rw (add-zero from) e

  pub points-next : (i : ℕ) {q : ℕ} → q ≡ quad s x y (from + i + 1) → q ≡ quad s x y (from + (i + 1))
  points-next i e = rw (← add_assoc from i 1) e

  pub points-turn : (i : ℕ) {low high : ℕ} → low ≡ quad s x y (from + i) → high ≡ quad s x y (from + i + 1) → (t₀ t : Totals) {t' : Totals} → t ≡ plus t₀ (line_from s x y from i) → t' ≡ plus t (at_pattern (of_byte (low + 2 * high))) → t' ≡ plus t₀ (line_from s x y from (i + 1))
  points-turn i l h t₀ t e e' =
      sums-turn (λ i. at_pattern (around s x y (from + i))) t₀ i e (e' ∙ ap (λ p. plus t (at_pattern p)) (pattern_is s x y (from + i) l h))

-- an empty run covers nothing
pub quad-none : (E : ℕ) (coords run : List ℕ) (x y z : ℕ) → length run ≡ 0 → 0 ≡ quad (run_covers E coords run) x y z
quad-none E coords run x y z h = rw (none x y z, none x (suc y) z, none (suc x) y z, none (suc x) (suc y) z)
  where
    none : (x y z : ℕ) → below (run_covers E coords run) x y z ≡ false
    none zero y z = refl
    none (suc i) zero z = refl
    none (suc i) (suc j) zero = refl
    none (suc i) (suc j) (suc k) = sym (run_none E coords run i j k h)

-- ---- the patterns of points from the run of their grid cell

module _ (job : Job) (v : Valid job) (x y gx gy gz : ℕ) (hx : InInterval (job.field / job.grid) job.grid gx x) (hy : InInterval (job.field / job.grid) job.grid gy y) (hz : gz < job.grid) where
  open job use {field as F, edge as E, grid as G, coords}

  line-in : gx * G + gy < G * G
  line-in = digits-below G gx gy hy.below G hx.below

  cell_in : (gx * G + gy) * G + gz < G * G * G
  cell_in = digits-below G (gx * G + gy) gz hz (G * G) line-in

  -- every number on the way is small
  pub cell-small : (gx * G + gy ≤ 4096) × ((gx * G + gy) * G + gz < 262144)
  cell-small = (omega (arith, line-in, square-most G v.grid_most), omega (arith, cell_in, cube-most G v.grid_most))

  module _ (w : List ℕ) (h : Holds job w) {n : ℕ} (e : n ≡ G * G * G) where
    pub cell-starts : Starts w n ((gx * G + gy) * G + gz) ((gx * G + gy) * G + gz + 1)
    cell-starts = rw e (holds-starts job w h ((gx * G + gy) * G + gz) 1 (omega (arith, cell_in)))

    module _ {run : List ℕ} (er : run ≡ between w n ((gx * G + gy) * G + gz) ((gx * G + gy) * G + gz + 1)) where
      run_is : run ≡ run_of job ((gx * G + gy) * G + gz)
      run_is = er ∙ rw e (holds-run job w h ((gx * G + gy) * G + gz) (omega (arith, cell_in)))

      -- it names few shots, all of the list
      pub run-asked : {few : ℕ} → few ≡ 4096 → AllBelow (shot_count coords) run × (length run ≤ few)
      unfolding run_of
      run-asked k = (rw run_is (below-those (shot_count coords) _ (up_to (shot_count coords)) (below-up_to (shot_count coords))), omega (arith, ap length run_is, run-few job v ((gx * G + gy) * G + gz)))

      point-pattern : (z : ℕ) → OnInterval (F / G) gz z → around (run_covers E coords (those (reaches_line E coords x y) run)) x y z ≡ around (cells (shots job)) x y z
      point-pattern z hk =
          narrowed-around E coords run x y z
          ∙ rw run_is (fun_ext λ a. fun_ext λ b. fun_ext λ c. run-around job gx gy gz hy.below hz x y z (on hx) (on hy) hk a b c)
        where
          on : {g x : ℕ} → InInterval (F / G) G g x → OnInterval (F / G) g x
          on i = record { low = i.low; high = i.high }

      pub points-are : (from points : ℕ) → PointsInInterval (F / G) G gz from points → {few : List ℕ} → few ≡ those (reaches_line E coords x y) run → (t : Totals) {r : Totals} → r ≡ plus t (line_from (run_covers E coords few) x y from points) → r ≡ plus t (line_from (cells (shots job)) x y from points)
      points-are from points b ef t k =
          k ∙ rw ef (ap (plus t) (sum-agree points _ _ λ i l. ap at_pattern (point-pattern (from + i) (record { low = omega (arith, b.low); high = omega (arith, b.high) }))))

-- the points of an interval are below 1,025
pub interval-points-most : {job : Job} → Valid job → (g from points : ℕ) → PointsInInterval (job.field / job.grid) job.grid g from points → from + points ≤ 1025
interval-points-most {job} v g from points b = omega (arith, b.high, mul-le-mul_right {m = g + 1} {n = job.grid} (job.field / job.grid) (omega (arith, b.below)), width-times v, v.field_most)

-- ---- interval by interval

module _ {job : Job} (v : Valid job) (g : ℕ) (h : g < job.grid) where
  open job use {field as F, grid as G}

  interval-ends : g * (F / G) + F / G ≤ F
  interval-ends = omega (arith, mul-le-mul_right {m = g + 1} {n = G} (F / G) (omega arith), width-times v, add-mul g 1 (F / G), one-mul (F / G))

  pub interval-fits : g * (F / G) ≤ 1024
  interval-fits = omega (arith, interval-ends, v.field_most)

  pub interval-points : PointsInInterval (F / G) G g (g * (F / G)) (F / G)
  interval-points = record { below = h; low = omega arith; high = omega (arith, add-mul g 1 (F / G), one-mul (F / G)) }

-- the point of the far side
pub last-interval-points : {job : Job} → Valid job → PointsInInterval (job.field / job.grid) job.grid (job.grid - 1) job.field 1
last-interval-points {job} v =
    let g : job.grid - 1 + 1 ≡ job.grid = omega (arith, v.grid_least) in
    record {
      below = omega (arith, v.grid_least);
      low = omega (arith, width-times v, mul-le-mul_right {m = job.grid - 1} {n = job.grid} (job.field / job.grid) (omega arith));
      high = rw g (omega (arith, width-times v));
    }

module _ (s : Cells) (x y : ℕ) (t₀ : Totals) where
  pub intervals-none : (width : ℕ) → t₀ ≡ plus t₀ (line_to s (0 * width) x y)
  intervals-none width = rw (zero-mul width) (sums_none (λ z. at_pattern (around s x y z)) t₀)

  pub intervals-turn : (g width : ℕ) {t t' : Totals} → t ≡ plus t₀ (line_to s (g * width) x y) → t' ≡ plus t (line_from s x y (g * width) width) → t' ≡ plus t₀ (line_to s ((g + 1) * width) x y)
  intervals-turn g width e e' =
      let n : (g + 1) * width ≡ g * width + width = rw (add-mul g 1 width, one-mul width) in
      rw n (sums-add (λ z. at_pattern (around s x y z)) t₀ (g * width) width e e')

  pub line-last : (n : ℕ) {t t' : Totals} → t ≡ plus t₀ (line_to s n x y) → t' ≡ plus t (line_from s x y n 1) → t' ≡ plus t₀ (line_to s (n + 1) x y)
  line-last n e e' = sums-add (λ z. at_pattern (around s x y z)) t₀ n 1 e e'
