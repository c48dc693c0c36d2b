-- The checks that every call on a list shares, in their order: refusals 1, 2, 6, 7, 8, 9 of docs/SCOPE.md, 'When a job is refused'.
-- What is earlier is a matter of place in a call's list of tests, not of number.
use Rattle.std.specs.Prelude.{Bool, not, cond, ◌||◌, List, [], ◌∷◌, ◌++◌, ℕ, suc, ◌+◌, ◌%◌, eqb, ltb, length}
use Rattle.lattice.specs.Shots.{Shot, any}
use Rattle.refusals.specs.declared.Refusal.TheVariants.{BrokenShot, TooManyShots, FieldRange, EdgeRange, GridRange, OutsideField}
use Rattle.refusals.specs.Tests.{Test, first_of}
use Rattle.job.specs.Job.{Job, shots, shot_count}
use Rattle.refusals.specs.Refusals.{Checked}

-- a is below least or above most
abbrev pub outside : ℕ → ℕ → ℕ → Bool
outside least most a = ltb a least || ltb most a

-- a cube from a place on an axis passes the side of the field
abbrev pub past : ℕ → ℕ → ℕ → Bool
past F e a = ltb F (a + e)

-- a shot leaves the field
abbrev pub leaves : ℕ → Shot → Bool
leaves F t = past F t.edge t.x || (past F t.edge t.y || past F t.edge t.z)

-- the first shot that leaves the field, from 0; the number of shots where none does
unfoldable pub first_leaving : ℕ → List Shot → ℕ
first_leaving F [] = 0
first_leaving F (t ∷ ts) = cond (leaves F t) 0 (suc (first_leaving F ts))

-- the tests of the settings and of the coordinates' count: 1, 2, 6, 7, 8
unfoldable pub setting_tests : Job → List Test
setting_tests job =
    record { holds = not (eqb (length job.coords % 3) 0); gives = BrokenShot }
    ∷ record { holds = ltb 4096 (shot_count job.coords); gives = TooManyShots 0 }
    ∷ record { holds = outside 1 1024 job.field; gives = FieldRange }
    ∷ record { holds = outside 1 job.field job.edge; gives = EdgeRange }
    ∷ record { holds = outside 1 64 job.grid || not (eqb (job.field % job.grid) 0); gives = GridRange }
    ∷ []

-- the tests of the shots: 9
unfoldable pub shot_tests : ℕ → List Shot → List Test
shot_tests F ts = record { holds = any (leaves F) ts; gives = OutsideField (first_leaving F ts) } ∷ []

-- the tests of a job; a call's own tests come after them
unfoldable pub tests : Job → List Test
tests job = setting_tests job ++ shot_tests job.field (shots job)

abbrev pub checked : Job → Checked
checked job = first_of (tests job)
