-- `put_part` writes where there is room.
use mathlib.Core.Path.{refl}
use native.Mathlib.Omega.{arith}
use Rattle.acceptance.proofs.SectionParts.{put-none, put_whole}
use Rattle.acceptance.proofs.sections.put_part.Goals as goal

pub returns-then-out-at : goal.returns-then-out-at
returns-then-out-at c = put-none refl refl (omega arith) (omega (arith, c.if-out-at.true))

pub returns : goal.returns
returns c = put_whole c.put_word.ensures
