-- The tests are those of the definition.
use mathlib.Core.Path.{sym, ◌∙◌}
use Rattle.sweep_overlaps.specs.Overlaps.{meets_rect}
use Rattle.sweep_overlaps.proofs.meets.Goals as goal

pub returns-then-overlaps : goal.returns-then-overlaps
unfolding meets_rect
returns-then-overlaps c = rw (sym c.overlaps.ensures ∙ c.if-overlaps.true)

pub returns-else-overlaps : goal.returns-else-overlaps
unfolding meets_rect
returns-else-overlaps c = rw (sym c.overlaps.ensures ∙ c.if-overlaps.false) c.if-overlaps.false
