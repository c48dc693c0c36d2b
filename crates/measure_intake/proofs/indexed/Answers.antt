-- The checks, then the need, then the index.
use mathlib.Core.Path.{refl, sym}
use native.Mathlib.Omega.{arith}
use Rattle.std.proofs.lemmas.Result.{err_from_is_err_and}
use Rattle.measure_intake.proofs.IntakeLaws.{refused-intake, short-intake, long-intake}
use Rattle.measure_intake.proofs.indexed.Goals as goal

pub returns-in_err-list : goal.returns-in_err-list
returns-in_err-list c = let p = err_from_is_err_and c.from_residual.result c.from_residual.ensures.1 in
    rw (p.1, p.2) (refused-intake _ c.args.work.now _ (sym c.in_err-list.ensures) refl)

pub returns-then-work-need : goal.returns-then-work-need
returns-then-work-need c = short-intake _ c.args.work.now c.in_ok-list.ensures.1 (rw c.in_ok-list.ensures.0 at c.need-need.ensures) (omega arith)

pub returns : goal.returns
returns c = long-intake _ c.args.work.now c.in_ok-list.ensures.1 (rw c.in_ok-list.ensures.0 at c.need-need.ensures) (omega arith) (rw c.in_ok-list.ensures.0 at c.build.ensures)
