-- The shot that is named, or none.
use Rattle.capi_answers.specs.Places.{cover_places}
use Rattle.capi_answers.proofs.StoreLaws.{put_as}
use Rattle.capi_answers.proofs.put_covering.Goals as goal

pub returns-in-Some : goal.returns-in-Some
returns-in-Some c = put_as cover_places c.args.answer.now c.put_named.ensures c.in-Some.is

pub returns-in-None : goal.returns-in-None
returns-in-None c = put_as cover_places c.args.answer.now c.put_named-in-None.ensures c.in-None.is
