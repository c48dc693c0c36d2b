-- A refusal of the checks is the answer; otherwise the field is counted.
use mathlib.Core.Path.{refl}
use Rattle.std.proofs.lemmas.Result.{err_from_is_err_and}
use Rattle.measure_intake.proofs.IntakeLaws.{accepted-holds, refused-measure, accepted-measure}
use Rattle.measure_shown.proofs.recount.Goals as goal

pub returns-in_err-indexed : goal.returns-in_err-indexed
returns-in_err-indexed c = let p = err_from_is_err_and c.from_residual.result c.from_residual.ensures.1 in
    rw (p.1, p.2) (refused-measure c.in_err-indexed.ensures _ refl)

pub invariant_of-count_shown : goal.invariant_of-count_shown
invariant_of-count_shown c = record { holds = accepted-holds c.in_ok-indexed.ensures refl }

pub returns : goal.returns
returns c = accepted-measure c.in_ok-indexed.ensures refl c.count_shown.ensures
