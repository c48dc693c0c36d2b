-- The two tests joined by 'or' are what `is_outside` answers. Assumes nothing.
use mathlib.Core.Path.{refl, ◌∙◌}
use borrow.Author.Tests.{lt-ltb, le-ltb}
use Rattle.ground.proofs.Bools.{or-first, or-second}
use Rattle.job.proofs.is_outside.Goals as goal

pub returns-then-a-least : goal.returns-then-a-least
returns-then-a-least c = lt-ltb _ _ c.if-a-least.true ∙ or-first _ _ (lt-ltb _ _ c.if-a-least.true)

pub returns-else-a-least : goal.returns-else-a-least
returns-else-a-least c = or-second _ _ (le-ltb _ _ c.if-a-least.false) refl
