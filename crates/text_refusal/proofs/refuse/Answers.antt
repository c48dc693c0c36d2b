-- The number and the detail are those of the refusal.
use mathlib.Core.Path.{ap₂}
use Rattle.text_refusal.specs.RefusalLine.{refusal_line}
use Rattle.buffer.proofs.WroteLaws.{wrote_as}
use Rattle.text_refusal.proofs.refuse.Goals as goal

pub returns : goal.returns
returns c = let told = c.notice_of-told.ensures in
    wrote_as (ap₂ refusal_line told.number told.detail) c.refusal_line.ensures
