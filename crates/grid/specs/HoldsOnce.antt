-- A slice holds the index of a list in one way at most, so that a type can carry it.
use Rattle.std.specs.Prelude.{◌≡◌, ℕ, List, ◌++◌}
use mathlib.Core.Path.{sym, ◌∙◌}
use Rattle.std.specs.Coded.{Coded-set, coded_list, coded_ℕ}
use mathlib.Core.HLevel.{is_prop→PathP}
use mathlib.Core.List.{append_cancel_left}
use Rattle.job.specs.Job.{Job}
use Rattle.job.specs.ValidOnce.{Valid-prop}
use Rattle.grid.specs.Grid.{index_of, Holds}

pub Holds-prop : (job : Job) (work : List ℕ) → IsProp (Holds job work)
Holds-prop job work a b =
    let same : a.rest ≡ b.rest = append_cancel_left (index_of job) a.rest b.rest (sym a.is ∙ b.is) in
    λ i. record {
      valid = Valid-prop job a.valid b.valid i;
      rest = same i;
      is = is_prop→PathP (λ i. work ≡ index_of job ++ same i) (λ i. Coded-set (coded_list coded_ℕ) work (index_of job ++ same i)) a.is b.is i;
    }
