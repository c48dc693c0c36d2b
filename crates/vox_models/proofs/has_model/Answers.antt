use mathlib.Core.Path.{sym, ap, ◌∙◌}
use Rattle.vox_models.specs.Models.{model_from}
use Rattle.vox_models.proofs.Walk.{model-none, model-end, model-here, model-next}
use Rattle.vox_models.proofs.has_model.Goals as goal

pub returns-then-is_there : goal.returns-then-is_there
returns-then-is_there c = model-here c.args.bytes.now c.loop-at.at c.loop-at-test.true (sym c.is_overrun.ensures ∙ c.if-not-is_overrun.true) (sym c.is_there.ensures ∙ c.if-is_there.true) ∙ c.loop-at.invariant

pub loop-at-preserved : goal.loop-at-preserved
loop-at-preserved c = ap (model_from c.args.bytes.now) c.after_chunk-at.ensures
    ∙ model-next c.args.bytes.now c.loop-at.at c.loop-at-test.true (sym c.is_overrun.ensures ∙ c.if-not-is_overrun.true) (sym c.is_there.ensures ∙ c.if-is_there.false)
    ∙ c.loop-at.invariant

pub returns-else-not-is_overrun : goal.returns-else-not-is_overrun
returns-else-not-is_overrun c = model-none c.args.bytes.now c.loop-at.at (sym c.is_overrun.ensures ∙ c.if-not-is_overrun.false) ∙ c.loop-at.invariant

pub returns-after-loop-at : goal.returns-after-loop-at
returns-after-loop-at c = model-end c.args.bytes.now c.loop-at.at c.loop-at-test.false ∙ c.loop-at.invariant
