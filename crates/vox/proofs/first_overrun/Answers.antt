use mathlib.Core.Path.{sym, ap, ◌∙◌}
use Rattle.vox.specs.Vox.{overrun_from}
use Rattle.vox.proofs.Walks.{over_none, over-found, over-next}
use Rattle.vox.proofs.first_overrun.Goals as goal

pub loop-at-preserved : goal.loop-at-preserved
loop-at-preserved c = ap (overrun_from c.args.bytes.now) c.after_chunk-at.ensures ∙ over-next c.args.bytes.now c.loop-at.at c.loop-at-test.true (sym c.is_overrun.ensures ∙ c.if-not-is_overrun.true) ∙ c.loop-at.invariant

pub returns-else-not-is_overrun : goal.returns-else-not-is_overrun
returns-else-not-is_overrun c = over-found c.args.bytes.now c.loop-at.at c.loop-at-test.true (sym c.is_overrun.ensures ∙ c.if-not-is_overrun.false) ∙ c.loop-at.invariant

pub returns-after-loop-at : goal.returns-after-loop-at
returns-after-loop-at c = over_none c.args.bytes.now c.loop-at.at c.loop-at-test.false ∙ c.loop-at.invariant
