-- The intake, then the length of the credit slice, then the credits.
use mathlib.Core.Path.{refl}
use native.Mathlib.Omega.{arith}
use Rattle.std.proofs.lemmas.Result.{err_from_is_err_and}
use Rattle.measure_intake.proofs.IntakeLaws.{accepted-holds}
use Rattle.crediting.proofs.CallLaws.{refused-credit, short-credit, long-credit}
use Rattle.crediting.proofs.credit.Goals as goal

pub returns-in_err-indexed : goal.returns-in_err-indexed
returns-in_err-indexed c = let p = err_from_is_err_and c.from_residual.result c.from_residual.ensures.1 in
    rw (p.1, p.2) (refused-credit c.in_err-indexed.ensures c.args.credits.now _ refl)

pub returns-then-credits-shots : goal.returns-then-credits-shots
returns-then-credits-shots c = short-credit c.in_ok-indexed.ensures c.args.credits.now refl c.count-shots.ensures (omega (arith, c.if-credits-shots.true))

pub store-requires : goal.store-requires
store-requires c = record { shots_placed = omega (arith, c.count-shots.ensures, c.if-credits-shots.false) }

pub invariant_of-store : goal.invariant_of-store
invariant_of-store c = record { holds = accepted-holds c.in_ok-indexed.ensures refl }

pub returns : goal.returns
returns c = long-credit c.in_ok-indexed.ensures c.args.credits.now refl c.count-shots.ensures c.if-credits-shots.false c.store.ensures
