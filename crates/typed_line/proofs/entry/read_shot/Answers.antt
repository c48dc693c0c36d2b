-- Three words, and no fourth.
use Rattle.std.proofs.Common.{arith}
use Rattle.std.proofs.lemmas.Result.{err_from_is_err_and}
use Rattle.typed_line.proofs.Saying.{shot-none, shot-one, shot-wrong, shot-three}
use Rattle.typed_line.proofs.entry.read_shot.Goals as goal

pub returns-in_err-x : goal.returns-in_err-x
returns-in_err-x c =
    let p = err_from_is_err_and c.from_residual.result c.from_residual.ensures.1 in
    let h = shot-none c.in_err-x.ensures.0 in
    grind arith

pub returns-in_err-y : goal.returns-in_err-y
returns-in_err-y c =
    let p = err_from_is_err_and c.from_residual-in_err-y.result c.from_residual-in_err-y.ensures.1 in
    let h = shot-one c.in_ok-x.ensures c.in_err-y.ensures.0 in
    grind arith

pub returns-in_err-z : goal.returns-in_err-z
returns-in_err-z c =
    let p = err_from_is_err_and c.from_residual-in_err-z.result c.from_residual-in_err-z.ensures.1 in
    let h = shot-wrong c.in_ok-x.ensures c.in_ok-y.ensures c.in_err-z.ensures in
    grind arith

pub returns-in_err-x-2 : goal.returns-in_err-x-2
returns-in_err-x-2 c =
    let p = err_from_is_err_and c.from_residual-in_err-x-2.result c.from_residual-in_err-x-2.ensures.1 in
    let h = shot-three c.in_ok-x.ensures c.in_ok-y.ensures c.in_ok-z.ensures in
    grind arith

pub returns-in_err-y-2 : goal.returns-in_err-y-2
returns-in_err-y-2 c =
    let p = err_from_is_err_and c.from_residual-in_err-y-2.result c.from_residual-in_err-y-2.ensures.1 in
    let h = shot-three c.in_ok-x.ensures c.in_ok-y.ensures c.in_ok-z.ensures in
    grind arith

pub returns-in_err-z-2 : goal.returns-in_err-z-2
returns-in_err-z-2 c =
    let p = err_from_is_err_and c.from_residual-in_err-z-2.result c.from_residual-in_err-z-2.ensures.1 in
    let h = shot-three c.in_ok-x.ensures c.in_ok-y.ensures c.in_ok-z.ensures in
    grind arith

pub returns : goal.returns
returns c = let h = shot-three c.in_ok-x.ensures c.in_ok-y.ensures c.in_ok-z.ensures in grind arith
