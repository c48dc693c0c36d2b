-- Each answer has its numbers.
use mathlib.Core.Path.{◌∙◌, ap₂}
use mathlib.Core.List.{[], ◌∷◌}
use Rattle.buffer.specs.Wrote.{in_front}
use Rattle.shotfile_writer.specs.Calls.{written_numbers}
use Rattle.capi_answers.proofs.StoreLaws.{put_as}
use Rattle.capi_answers.proofs.put_written.Goals as goal

pub returns-in-Ok : goal.returns-in-Ok
unfolding written_numbers
returns-in-Ok c = put_as written_numbers c.args.answer.now c.put_length.ensures c.in-Ok.is

pub returns-in-Err : goal.returns-in-Err
unfolding written_numbers
returns-in-Err c = let told = c.notice_of-told.ensures in
    put_as written_numbers c.args.answer.now (c.put_length-in-Err.ensures ∙ ap₂ (λ a b. in_front (a ∷ b ∷ 0 ∷ []) c.args.answer.now) told.number told.detail) c.in-Err.is
