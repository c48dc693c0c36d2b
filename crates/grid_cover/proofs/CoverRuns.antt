-- The run of a grid cell names the lowest covering shot of the list, and so covers what the list covers: for the unit cells in it, and for
-- the eight cells about each lattice point of its closed box.
use mathlib.Core.Path.{◌≡◌, refl, sym, ap, ◌∙◌}
use mathlib.Core.Bool.{Bool, true, false, ◌&&◌}
use mathlib.Core.List.{List}
use Prim.Native.Nat.{ℕ, zero, suc, ◌+◌, ◌*◌, ◌/◌, ◌≤◌, ◌<◌}
use native.Mathlib.Nat.{div-mul-le_self, lt-div-mul-add, div-lt_iff_lt-mul, add-mul, one-mul}
use native.Mathlib.Omega.{arith}
use lib.Dec.{T, leb, ltb}
use borrow.Author.Tests.{le-leb, lt-ltb, leb-true, ltb-true}
use Rattle.std.specs.Prelude.{is_some}
use Rattle.lattice.specs.Cells.{Cells, below, up}
use Rattle.lattice.specs.Pattern.{around}
use Rattle.lattice.specs.Shots.{Shot, spans, covers, any, cells}
use Rattle.job.specs.Job.{Job, shots, shot, shots_of, shot_count, shot_at, Valid}
use Rattle.job.proofs.Shots.{any_at, at-any}
use Rattle.ground.proofs.Bools.{bool-ext, and-true}
use Rattle.ground.proofs.AnyLaws.{any-to-ext, any-to-some, any-to-at}
use Rattle.ground.specs.Numbers.{any_to, up_to}
use Rattle.grid.specs.Grid.{meets, touches_cell, grid_cells, run_of, holding}
use Rattle.grid_cover.specs.Cover.{shot_covers, first_covering, lowest_covering, run_covers}
use Rattle.ground.proofs.Digits.{digit-high, digit_low, digits-below}
use Rattle.grid.proofs.ShotLaws.{width-times, width-least}
use Rattle.grid_cover.proofs.CoverLaws.{first-among}
use Rattle.grid_cover.proofs.LowestLaws.{first_any}

-- ---- some shot of a list

any-shots : (f : Shot → Bool) (e : ℕ) (coords : List ℕ) → any f (shots_of e coords) ≡ any_to (shot_count coords) (λ i. f (shot_at e coords i))
any-shots f e coords = bool-ext (any f (shots_of e coords)) (any_to (shot_count coords) (λ i. f (shot_at e coords i))) there back
  where
    there : T (any f (shots_of e coords)) → T (any_to (shot_count coords) (λ i. f (shot_at e coords i)))
    there t = let r = any_at e f coords t in any-to-at (shot_count coords) (λ i. f (shot_at e coords i)) r.0 r.1 r.2

    back : T (any_to (shot_count coords) (λ i. f (shot_at e coords i))) → T (any f (shots_of e coords))
    back t = let r = any-to-some (shot_count coords) (λ i. f (shot_at e coords i)) t in at-any e f coords r.0 r.1 r.2

-- a list covers a cell exactly if it has a lowest covering shot
pub lowest-covers : (E : ℕ) (coords : List ℕ) (i j k : ℕ) → is_some (lowest_covering E coords i j k) ≡ cells (shots_of E coords) i j k
unfolding lowest_covering first_covering shot_covers
lowest-covers E coords i j k =
    first_any (λ s. shot_covers E coords s i j k) (shot_count coords)
    ∙ (any-to-ext (shot_count coords) (λ s l. rw (lt-ltb s (shot_count coords) l)) ∙ sym (any-shots (λ t. covers t i j k) E coords))

-- ---- a unit cell that touches a grid cell

-- unit cell i of an axis shares a point with interval g of width s, ends included
pub record Near (s g i : ℕ) : Type 0 where
  pub low : g * s ≤ i + 1
  pub high : i ≤ (g + 1) * s

near-meets : (s g i e a : ℕ) → Near s g i → spans e a i ≡ true → meets s g a e ≡ true
unfolding meets
near-meets s g i e a n h =
    let c : leb a i ≡ true = (and-true (leb a i) (ltb i (a + e)) h).0 in
    let d : ltb i (a + e) ≡ true = (and-true (leb a i) (ltb i (a + e)) h).1 in
    rw (le-leb (g * s) (a + e) (omega (arith, ltb-true i (a + e) d)), le-leb a ((g + 1) * s) (omega (arith, leb-true a i c)))

module _ (job : Job) (gx gy gz : ℕ) (hy : gy < job.grid) (hz : gz < job.grid) (i j k : ℕ) (nx : Near (job.field / job.grid) gx i) (ny : Near (job.field / job.grid) gy j) (nz : Near (job.field / job.grid) gz k) where
  open job use {field as F, edge as E, grid as G, coords}

  covering-touches : (s : ℕ) → shot_covers E coords s i j k ≡ true → touches_cell F G ((gx * G + gy) * G + gz) (shot job s) ≡ true
  unfolding shot_covers
  covering-touches s h =
      let t : Shot = shot job s in
      let c = (and-true (ltb s (shot_count coords)) (covers (shot job s) i j k) h).1 in
      let x = and-true (spans t.edge t.x i) (spans t.edge t.y j && spans t.edge t.z k) c in
      let yz = and-true (spans t.edge t.y j) (spans t.edge t.z k) x.1 in
      rw (digit-high G (gx * G + gy) gz hz, digit_low G (gx * G + gy) gz hz, digit-high G gx gy hy, digit_low G gx gy hy, near-meets (F / G) gx i t.edge t.x nx x.0, near-meets (F / G) gy j t.edge t.y ny yz.0, near-meets (F / G) gz k t.edge t.z nz yz.1)

  -- the run of a grid cell names the list's lowest covering shot of a unit cell that touches it
  pub run-names : first_covering E coords (run_of job ((gx * G + gy) * G + gz)) i j k ≡ lowest_covering E coords i j k
  unfolding first_covering lowest_covering run_of
  run-names = first-among _ _ covering-touches (up_to (shot_count coords))

  -- and so covers the unit cell exactly if the list does
  run-covers : run_covers E coords (run_of job ((gx * G + gy) * G + gz)) i j k ≡ cells (shots job) i j k
  run-covers = ap is_some run-names ∙ lowest-covers E coords i j k

-- ---- the grid cell that holds a unit cell

module _ {job : Job} (v : Valid job) where
  open job use {field as F, edge as E, grid as G, coords}

  near-holding : (i : ℕ) → Near (F / G) (i / (F / G)) i
  near-holding i =
      record {
        low = omega (arith, div-mul-le_self i (F / G));
        high = omega (arith, lt-div-mul-add {a = i} {b = F / G} (width-least v), add-mul (i / (F / G)) 1 (F / G), one-mul (F / G));
      }

  interval-below : (i : ℕ) → i < F → i / (F / G) < G
  interval-below i h = (div-lt_iff_lt-mul {k = F / G} {x = i} {y = G} (width-least v)).1 (omega (arith, h, width-times v))

  module _ (i j k : ℕ) (hi : i < F) (hj : j < F) (hk : k < F) where
    pub holding-in : holding F G i j k < grid_cells job
    holding-in = digits-below G _ _ (interval-below k hk) (G * G) (digits-below G _ _ (interval-below j hj) G (interval-below i hi))

    -- its run names the list's lowest covering shot of the unit cell
    pub holding-names : first_covering E coords (run_of job (holding F G i j k)) i j k ≡ lowest_covering E coords i j k
    holding-names = run-names job _ _ _ (interval-below j hj) (interval-below k hk) i j k (near-holding i) (near-holding j) (near-holding k)

    -- and covers it exactly if the list does
    pub holding-covers : run_covers E coords (run_of job (holding F G i j k)) i j k ≡ cells (shots job) i j k
    holding-covers = run-covers job _ _ _ (interval-below j hj) (interval-below k hk) i j k (near-holding i) (near-holding j) (near-holding k)

-- ---- the eight cells about a lattice point of a closed box

near-point : (s g x : ℕ) → g * s ≤ x → x ≤ (g + 1) * s → (a : Bool) (i : ℕ) → up a x ≡ suc i → Near s g i
near-point s g x low high false i e = record { low = omega arith; high = omega arith }
near-point s g x low high true i e = record { low = omega arith; high = omega arith }

-- two solids that agree at the cells that end at one of eight places agree about the point
pub below-agree : (s t : Cells) (x y z : ℕ) → ((i j k : ℕ) → x ≡ suc i → y ≡ suc j → z ≡ suc k → s i j k ≡ t i j k) → below s x y z ≡ below t x y z
below-agree s t zero y z h = refl
below-agree s t (suc i) zero z h = refl
below-agree s t (suc i) (suc j) zero h = refl
below-agree s t (suc i) (suc j) (suc k) h = h i j k refl refl refl

-- a lattice point lies in the closed box of a grid cell, on one axis
pub record OnInterval (s g x : ℕ) : Type 0 where
  pub low : g * s ≤ x
  pub high : x ≤ (g + 1) * s

module _ (job : Job) (gx gy gz : ℕ) (hy : gy < job.grid) (hz : gz < job.grid) where
  open job use {field as F, edge as E, grid as G, coords}

  pub run-around : (x y z : ℕ) → OnInterval (F / G) gx x → OnInterval (F / G) gy y → OnInterval (F / G) gz z → (a b c : Bool) → around (run_covers E coords (run_of job ((gx * G + gy) * G + gz))) x y z a b c ≡ around (cells (shots job)) x y z a b c
  run-around x y z nx ny nz a b c =
      below-agree _ _ (up a x) (up b y) (up c z) λ i j k ei ej ek.
      run-covers job gx gy gz hy hz i j k (near-point (F / G) gx x nx.low nx.high a i ei) (near-point (F / G) gy y ny.low ny.high b j ej) (near-point (F / G) gz z nz.low nz.high c k ek)
