-- A refusal of the checks is the answer; otherwise the corners are counted and listed.
use mathlib.Core.Path.{refl}
use Rattle.std.proofs.lemmas.Result.{err_from_is_err_and}
use Rattle.measure_intake.proofs.IntakeLaws as intake
use Rattle.measure.proofs.AnswerLaws.{refused-list, accepted-list}
use Rattle.measure.proofs.list.Goals as goal

pub returns-in_err-indexed : goal.returns-in_err-indexed
returns-in_err-indexed c = let p = err_from_is_err_and c.from_residual.result c.from_residual.ensures.1 in
    rw (p.1, p.2) (refused-list c.in_err-indexed.ensures c.args.buffer.now _ refl)

pub invariant_of-list_corners : goal.invariant_of-list_corners
invariant_of-list_corners c = record { holds = intake.accepted-holds c.in_ok-indexed.ensures refl }

pub returns : goal.returns
returns c = accepted-list c.in_ok-indexed.ensures c.args.buffer.now refl c.list_corners.ensures
