-- What is measured is charged by what the check and the lookup say of each table. Assumes nothing.
use mathlib.Core.Path.{refl}
use Rattle.std.proofs.lemmas.Result.{err_from_is_err_and}
use Rattle.price.proofs.AnswerLaws.{unmeasured-price, taken-chargeable, charged-price}
use Rattle.price.proofs.price.Goals as goal

pub returns-in_err-totals : goal.returns-in_err-totals
returns-in_err-totals c = let p = err_from_is_err_and c.from_residual.result c.from_residual.ensures.1 in
    rw (p.1, p.2) (unmeasured-price c.in_err-totals.ensures _ refl)

pub charge-requires : goal.charge-requires
charge-requires c =
    taken-chargeable c.in_ok-totals.ensures (record { volume = c.args.volume.now; area = c.args.area.now; edges = c.args.edges.now }) refl c.check.ensures c.check-2.ensures c.check-3.ensures c.lookup.ensures c.lookup-2.ensures c.lookup-3.ensures

pub returns : goal.returns
returns c =
    charged-price c.in_ok-totals.ensures _ refl c.check.ensures c.check-2.ensures c.check-3.ensures c.lookup.ensures c.lookup-2.ensures c.lookup-3.ensures c.charge.ensures
