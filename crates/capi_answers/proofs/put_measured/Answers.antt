-- Each answer has its numbers.
use mathlib.Core.Path.{◌∙◌, ap₂}
use mathlib.Core.List.{[], ◌∷◌}
use Rattle.measure_intake.specs.Intake.{measured_numbers}
use Rattle.buffer.specs.Wrote.{in_front}
use Rattle.capi_answers.specs.Places.{measure_places}
use Rattle.capi_answers.proofs.StoreLaws.{put_as}
use Rattle.capi_answers.proofs.put_measured.Goals as goal

pub returns-in-Ok : goal.returns-in-Ok
unfolding measured_numbers
returns-in-Ok c = put_as (λ m. measure_places (measured_numbers m)) c.args.answer.now c.put_totals.ensures c.in-Ok.is

pub returns-in-Err : goal.returns-in-Err
unfolding measured_numbers
returns-in-Err c = let told = c.notice_of-told.ensures in
    put_as (λ m. measure_places (measured_numbers m)) c.args.answer.now (c.put_totals-in-Err.ensures ∙ ap₂ (λ a b. in_front (a ∷ b ∷ 0 ∷ 0 ∷ 0 ∷ 0 ∷ 0 ∷ []) c.args.answer.now) told.number told.detail) c.in-Err.is
