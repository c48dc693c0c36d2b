-- The slice for the numbers is looked at first.
use Rattle.capi.proofs.AnsweredLaws.{corners-at-untold, corners-at-told}
use Rattle.capi.proofs.heqdanu_corners_at.Goals as goal

pub returns-then-answer-lt-CORNERS_AT_ANSWER : goal.returns-then-answer-lt-CORNERS_AT_ANSWER
returns-then-answer-lt-CORNERS_AT_ANSWER c = corners-at-untold c.args.listing.now c.args.x c.args.answer.now c.if-answer-lt-CORNERS_AT_ANSWER.true

pub returns : goal.returns
returns c = corners-at-told c.args.listing.now c.args.x c.args.answer.now c.if-answer-lt-CORNERS_AT_ANSWER.false c.places_of-places.ensures c.put_part.ensures
