-- The cover test with the run that include/heqdanu.h names: that of the grid cell which holds a unit cell, in a work slice that holds the
-- index of a valid list. It tells whether the list covers the cell, and its lowest covering shot.
use mathlib.Core.Path.{ap, ◌∙◌, subst}
use mathlib.Core.List.{List, [], ◌∷◌}
use Prim.Native.Nat.{ℕ, ◌+◌, ◌<◌}
use native.Mathlib.Omega.{arith}
use Rattle.ground.specs.Numbers.{bit}
use Rattle.lattice.specs.Shots.{cells}
use Rattle.job.specs.Job.{Job, shots}
use Rattle.grid.specs.Grid.{grid_cells, Holds, between, holding}
use Rattle.grid_runs.proofs.ReadLaws.{holds-run}
use Rattle.grid_cover.specs.Cover.{first_covering, lowest_covering}
use Rattle.grid_cover.proofs.CoverRuns.{lowest-covers, holding-in, holding-names}
use Rattle.capi_answers.specs.Places.{shot_of, cover_places}
use Rattle.capi.specs.Answered.{Told, CoversTold}

module _ {job : Job} {work : List ℕ} (h : Holds job work) (i j k : ℕ) (hi : i < job.field) (hj : j < job.field) (hk : k < job.field) where
  open job use {field as F, edge as E, grid as G, coords}

  pub told-lowest : {answer answer' : List ℕ} {r : ℕ} → CoversTold E coords (between work (grid_cells job) (holding F G i j k) (holding F G i j k + 1)) i j k answer r answer'
      → Told (bit (cells (shots job) i j k) ∷ shot_of (lowest_covering E coords i j k) ∷ []) answer r answer'
  told-lowest {answer} {answer'} {r} t =
      let named = ap (λ run. first_covering E coords run i j k) (holds-run job work h (holding F G i j k) (omega (arith, holding-in h.valid i j k hi hj hk))) ∙ holding-names h.valid i j k hi hj hk in
      rw (← lowest-covers E coords i j k) (subst (λ o. Told (cover_places o) answer r answer') named t.told)
