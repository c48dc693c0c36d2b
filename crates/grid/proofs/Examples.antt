-- Needs that docs/SCOPE.md names: field 8, edge 2, grid 2.
use Rattle.std.proofs.Common.{◌≡◌, [], ◌∷◌, refl}
use Rattle.ground.specs.Sums.{total}
use Rattle.job.specs.Job.{job_of}
use Rattle.grid.specs.Grid.{meets, pairs, need}

-- one shot; (1, 1, 1) lies inside the first grid cell, (2, 2, 2) touches all eight from below, (3, 3, 3) overlaps them
pub known-needs : (need (job_of 8 2 2 (1 ∷ 1 ∷ 1 ∷ [])) ≡ 10) × (need (job_of 8 2 2 (2 ∷ 2 ∷ 2 ∷ [])) ≡ 17) × (need (job_of 8 2 2 (3 ∷ 3 ∷ 3 ∷ [])) ≡ 17)
unfolding need pairs meets total
known-needs = (refl, refl, refl)
