-- A work slice while the index is put into it, cell by cell: what stands in it when the first c of N runs are in.
-- The finished index is in `Grid`; these are the words of the functions that build it.
use Rattle.std.specs.Prelude.{◌≡◌, List, ◌++◌, ℕ, ◌+◌, ◌≤◌, length, drop}
use Rattle.ground.specs.Sums.{join}
use Rattle.ground.specs.Numbers.{those}
use Rattle.grid.specs.declared.intervals.Axis.{Axis}
use Rattle.grid.specs.Grid.{meets_on, starts}

-- a slice that begins with the n numbers of a list, and then has anything
pub record Front (w : List ℕ) (n : ℕ) (xs : List ℕ) : Type 0 where
  pub count : n ≡ length xs
  pub rest : List ℕ
  pub is : w ≡ xs ++ rest

-- of the shots that a list numbers, those that meet interval g of an axis
abbrev pub narrowed : Axis → ℕ → ℕ → ℕ → List ℕ → List ℕ → List ℕ
narrowed axis s g E coords l = those (meets_on axis s g E coords) l

-- the place where the run of cell c goes
abbrev pub run_place : (ℕ → List ℕ) → ℕ → ℕ → ℕ
run_place run N c = N + 1 + length (join c run)

-- w is w₀ with c starting places and c runs; the other starting places are yet to come
pub record RunsIn (run : ℕ → List ℕ) (N c : ℕ) (w₀ w : List ℕ) : Type 0 where
  pub waiting : List ℕ
  pub left : c + length waiting ≡ N + 1
  pub is : w ≡ (starts run c ++ waiting) ++ (join c run ++ drop (run_place run N c) w₀)

-- the runs fit, and at is the place where that of cell c goes
pub record Ready (run : ℕ → List ℕ) (N c at : ℕ) (w : List ℕ) : Type 0 where
  pub next : at ≡ run_place run N c
  pub room : run_place run N N ≤ length w

-- w' is w with the runs from cell c up to cell c' and their starting places; the run of cell c' goes to r
pub record Grew (run : ℕ → List ℕ) (N c c' : ℕ) (w w' : List ℕ) (r : ℕ) : Type 0 where
  pub next : r ≡ run_place run N c'
  pub same_length : length w' ≡ length w
  pub fills : (w₀ : List ℕ) → RunsIn run N c w₀ w → RunsIn run N c' w₀ w'
