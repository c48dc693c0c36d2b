-- Each answer has its numbers.
use mathlib.Core.Path.{◌∙◌, ap₂}
use mathlib.Core.List.{[], ◌∷◌}
use Rattle.refusals.specs.Refusals.{checked_numbers}
use Rattle.buffer.specs.Wrote.{in_front}
use Rattle.capi_answers.specs.Places.{index_places}
use Rattle.capi_answers.proofs.StoreLaws.{put_as}
use Rattle.capi_answers.proofs.put_checked.Goals as goal

pub returns-in-Ok : goal.returns-in-Ok
unfolding checked_numbers
returns-in-Ok c = put_as (λ m. index_places (checked_numbers m)) c.args.answer.now c.put_index.ensures c.in-Ok.is

pub returns-in-Err : goal.returns-in-Err
unfolding checked_numbers
returns-in-Err c = let told = c.notice_of-told.ensures in
    put_as (λ m. index_places (checked_numbers m)) c.args.answer.now (c.put_index-in-Err.ensures ∙ ap₂ (λ a b. in_front (a ∷ b ∷ []) c.args.answer.now) told.number told.detail) c.in-Err.is
