-- The slice for the numbers is looked at first.
use Rattle.price_charging.specs.Charging.{Tables}
use Rattle.capi.proofs.AnsweredLaws.{price-untold, price-told}
use Rattle.capi.proofs.heqdanu_price.Goals as goal

pub returns-then-answer-lt-PRICE_ANSWER : goal.returns-then-answer-lt-PRICE_ANSWER
returns-then-answer-lt-PRICE_ANSWER c =
    let t : Tables = record { volume = c.args.volume.now; area = c.args.area.now; edges = c.args.edges.now } in
    price-untold c.args.answer.now t c.if-answer-lt-PRICE_ANSWER.true

pub returns : goal.returns
returns c =
    let t : Tables = record { volume = c.args.volume.now; area = c.args.area.now; edges = c.args.edges.now } in
    price-told c.args.answer.now t c.if-answer-lt-PRICE_ANSWER.false c.price-priced.ensures c.put_priced.ensures
