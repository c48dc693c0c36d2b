-- The definitions give every job of the proved table the totals that it states: one theorem, by one computed test.
use mathlib.Core.Path.{◌≡◌}
use mathlib.Core.Bool.{Bool, true, ◌&&◌}
use mathlib.Core.List.{List, [], ◌∷◌}
use lib.Dec.{T, eqb, eqb→eq}
use lib.IntN.{pos}
use Rattle.ground.specs.Sums.{total}
use Rattle.lattice.specs.Cells.{Cells, volume, area_by, length_by}
use Rattle.lattice.specs.Pattern.{corner, some_nonzero, w, ax, ay, az, ex, ey, ez, ix, iy, iz}
use Rattle.lattice.specs.Figures.{Figure, cell_count}
use Rattle.lattice.specs.Listing.{corner_count}
use Rattle.lattice.specs.Shots.{cells, any}
use Rattle.lattice_known.specs.KnownJobs.{KnownJob, stated, known_jobs}
use Rattle.ground.proofs.Integers.{eq_z, eq_z-at}
use Rattle.ground.proofs.Bools.{and_left, and_right}
use Rattle.lattice.proofs.Cases.{each_figure, each_figure-at}

-- a job has the totals of the table
pub record Known (j : KnownJob) : Type 0 where
  pub figure_is : (f : Figure) → cell_count f 8 (cells j.shots) ≡ pos (stated f j)
  pub corners_is : corner_count 8 (cells j.shots) ≡ j.corners

abbrev pub AllKnown : List KnownJob → Type 0
AllKnown [] = Unit {0}
AllKnown (j ∷ js) = Known j × AllKnown js

figure-test : KnownJob → Figure → Bool
figure-test j f = eq_z (cell_count f 8 (cells j.shots)) (pos (stated f j))

test : KnownJob → Bool
test j = each_figure (figure-test j) && eqb (corner_count 8 (cells j.shots)) j.corners

tests : List KnownJob → Bool
tests [] = true
tests (j ∷ js) = test j && tests js

test_known : (j : KnownJob) → T (test j) → Known j
unfolding test figure-test
test_known j t =
    let s : Cells = cells j.shots in
    let a : Bool = each_figure (figure-test j) in
    let b : Bool = eqb (corner_count 8 s) j.corners in
    record {
      figure_is = λ f. eq_z-at (cell_count f 8 s) (pos (stated f j)) (each_figure-at (figure-test j) (and_left a b t) f);
      corners_is = eqb→eq (corner_count 8 s) j.corners (and_right a b t);
    }

tests-known : (js : List KnownJob) → T (tests js) → AllKnown js
unfolding tests
tests-known [] t = tt
tests-known (j ∷ js) t = (test_known j (and_left (test j) (tests js) t), tests-known js (and_right (test j) (tests js) t))

all_right : T (tests known_jobs)
unfolding tests known_jobs test figure-test any volume area_by length_by corner_count total corner some_nonzero w ax ay az ex ey ez ix iy iz
all_right = tt

-- the jobs marked P in the table of docs/SCOPE.md have the totals that it states
pub known-totals : AllKnown known_jobs
known-totals = tests-known known_jobs all_right
