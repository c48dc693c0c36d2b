-- Each answer has its numbers.
use mathlib.Core.Path.{◌∙◌, ap₂}
use mathlib.Core.List.{[], ◌∷◌}
use Rattle.price_charging.specs.Charging.{priced_numbers}
use Rattle.buffer.specs.Wrote.{in_front}
use Rattle.capi_answers.specs.Places.{price_places}
use Rattle.capi_answers.proofs.StoreLaws.{put_as}
use Rattle.capi_answers.proofs.put_priced.Goals as goal

pub returns-in-Ok : goal.returns-in-Ok
unfolding priced_numbers
returns-in-Ok c = put_as (λ m. price_places (priced_numbers m)) c.args.answer.now c.put_charges.ensures c.in-Ok.is

pub returns-in-Err : goal.returns-in-Err
unfolding priced_numbers
returns-in-Err c = let told = c.notice_of-told.ensures in
    put_as (λ m. price_places (priced_numbers m)) c.args.answer.now (c.put_charges-in-Err.ensures ∙ ap₂ (λ a b. in_front (a ∷ b ∷ 0 ∷ 0 ∷ 0 ∷ []) c.args.answer.now) told.number told.detail) c.in-Err.is
