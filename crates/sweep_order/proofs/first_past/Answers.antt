-- The range is searched.
use mathlib.Core.Path.{◌≡◌}
use mathlib.Core.Bool.{true, false}
use borrow.Author.Rules.{rules}
use Rattle.std.proofs.Common.{tests}
use Rattle.std.proofs.lemmas.Iterator.{first_from_Range}
use Rattle.sweep_order.specs.Order.{begins_past}
use Rattle.sweep_order.proofs.OrderLaws.{place_found}
use Rattle.sweep_order.proofs.first_past.Goals as goal

pub returns : goal.returns
returns c =
    let passes = begins_past c.args.boxes.now c.args.x in
    rw c.unwrap_or.ensures (place_found passes _ _ c.find.result c.requires.1
    (first_from_Range _ _ _ _ (λ i. passes i ≡ true) (λ i. passes i ≡ false) c.find.ensures.ran (λ i q k. search (rules, tests)) (λ i q k. search (rules, tests))))
