-- A run narrowed to the shots that reach a line of points covers the cells about the line as the whole run does.
use mathlib.Core.Path.{◌≡◌, ap, fun_ext}
use mathlib.Core.Bool.{Bool, true, false, ◌&&◌}
use mathlib.Core.List.{List}
use Prim.Native.Nat.{ℕ, suc, ◌+◌, ◌≤◌}
use native.Mathlib.Omega.{arith}
use lib.Dec.{leb, ltb}
use borrow.Author.Tests.{le-leb, leb-true, ltb-true}
use Rattle.std.specs.Prelude.{is_some}
use Rattle.lattice.specs.Cells.{up}
use Rattle.lattice.specs.Pattern.{around}
use Rattle.lattice.specs.Shots.{spans, covers}
use Rattle.job.specs.Job.{shot_count, x_at, y_at, z_at, edge_at, shot_at}
use Rattle.ground.proofs.Bools.{and-true}
use Rattle.ground.specs.Numbers.{those}
use Rattle.grid_cover.specs.Cover.{shot_covers, first_covering, run_covers}
use Rattle.grid_cover.proofs.CoverLaws.{first-among}
use Rattle.grid_cover.proofs.CoverRuns.{below-agree}
use Rattle.measure_lines.specs.Lines.{reaches_place, reaches_line}

-- ---- what covers a cell about the line reaches the line

span-reaches : (e a i x : ℕ) → i ≤ x → x ≤ i + 1 → spans e a i ≡ true → reaches_place e a x ≡ true
span-reaches e a i x low high h =
    let c : leb a i ≡ true = (and-true (leb a i) (ltb i (a + e)) h).0 in
    let d : ltb i (a + e) ≡ true = (and-true (leb a i) (ltb i (a + e)) h).1 in
    rw (le-leb a x (omega (arith, leb-true a i c)), le-leb x (a + e) (omega (arith, ltb-true i (a + e) d)))

about : (a : Bool) (x i : ℕ) → up a x ≡ suc i → (i ≤ x) × (x ≤ i + 1)
about false x i e = (omega arith, omega arith)
about true x i e = (omega arith, omega arith)

module _ (E : ℕ) (coords : List ℕ) (x y : ℕ) where
  covering-reaches : (i j k s : ℕ) → (i ≤ x) × (x ≤ i + 1) → (j ≤ y) × (y ≤ j + 1) → shot_covers E coords s i j k ≡ true → reaches_line E coords x y s ≡ true
  unfolding shot_covers
  covering-reaches i j k s hx hy h =
      let c : covers (shot_at E coords s) i j k ≡ true = (and-true (ltb s (shot_count coords)) (covers (shot_at E coords s) i j k) h).1 in
      let cx = and-true (spans (edge_at E coords s) (x_at coords s) i) (spans (edge_at E coords s) (y_at coords s) j && spans (edge_at E coords s) (z_at coords s) k) c in
      let cy = and-true (spans (edge_at E coords s) (y_at coords s) j) (spans (edge_at E coords s) (z_at coords s) k) cx.1 in
      rw (span-reaches (edge_at E coords s) (x_at coords s) i x hx.0 hx.1 cx.0, span-reaches (edge_at E coords s) (y_at coords s) j y hy.0 hy.1 cy.0)

module _ (E : ℕ) (coords run : List ℕ) (x y : ℕ) where
  narrowed-covers : (i j k : ℕ) → (i ≤ x) × (x ≤ i + 1) → (j ≤ y) × (y ≤ j + 1) → run_covers E coords (those (reaches_line E coords x y) run) i j k ≡ run_covers E coords run i j k
  unfolding first_covering
  narrowed-covers i j k hx hy =
      ap is_some (first-among (λ s. shot_covers E coords s i j k) (reaches_line E coords x y) (λ s. covering-reaches E coords x y i j k s hx hy) run)

  pub narrowed-around : (z : ℕ) → around (run_covers E coords (those (reaches_line E coords x y) run)) x y z ≡ around (run_covers E coords run) x y z
  narrowed-around z = fun_ext λ a. fun_ext λ b. fun_ext λ c.
      below-agree _ _ (up a x) (up b y) (up c z) λ i j k ei ej ek.
      narrowed-covers i j k (about a x i ei) (about b y j ej)
