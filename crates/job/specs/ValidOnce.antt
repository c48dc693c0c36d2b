-- A job is valid in one way at most, so that a type can carry it.
use Rattle.std.specs.Prelude.{ℕ, List, [], ◌∷◌}
use Rattle.std.specs.Coded.{×_prop, Unit-prop}
use Rattle.std.proofs.Props.{props}
use Rattle.lattice.specs.Shots.{Shot, InField, AllInField}
use Rattle.job.specs.Job.{Job, Valid}

InField-prop : (n : ℕ) (t : Shot) → IsProp (InField n t)
InField-prop n t = Prim.hlevel props

AllInField-prop : (n : ℕ) (ts : List Shot) → IsProp (AllInField n ts)
AllInField-prop n [] = Unit-prop
AllInField-prop n (t ∷ ts) = ×_prop (InField-prop n t) (AllInField-prop n ts)

ruleset one_way = (AllInField-prop, props)

pub Valid-prop : (job : Job) → IsProp (Valid job)
Valid-prop job = Prim.hlevel one_way
