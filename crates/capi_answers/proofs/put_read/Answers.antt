-- Each answer has its numbers.
use mathlib.Core.Path.{◌∙◌, ap₂}
use mathlib.Core.List.{[], ◌∷◌}
use Rattle.buffer.specs.Wrote.{in_front}
use Rattle.shotfile_reader.specs.Calls.{read_numbers}
use Rattle.capi_answers.proofs.StoreLaws.{put_as}
use Rattle.capi_answers.proofs.put_read.Goals as goal

pub returns-in-Ok : goal.returns-in-Ok
unfolding read_numbers
returns-in-Ok c = put_as read_numbers c.args.answer.now c.put_list.ensures c.in-Ok.is

pub returns-in-Err : goal.returns-in-Err
unfolding read_numbers
returns-in-Err c = let told = c.notice_of-told.ensures in
    put_as read_numbers c.args.answer.now (c.put_list-in-Err.ensures ∙ ap₂ (λ a b. in_front (a ∷ b ∷ 0 ∷ 0 ∷ 0 ∷ 0 ∷ []) c.args.answer.now) told.number told.detail) c.in-Err.is
