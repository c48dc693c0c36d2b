use mathlib.Core.Path.{refl, sym, ap, ◌∙◌}
use native.Mathlib.Omega.{arith}
use Rattle.std.specs.Prelude.{Ok}
use Rattle.buffer.proofs.Underway.{underway-all, underway-more, wrote-front}
use Rattle.shotfile_records.specs.Numbers.{shot_numbers}
use Rattle.shotfile_reader.proofs.Storing.{next-all, next-done, next-stopped, next-ended, next_shot}
use Rattle.shotfile_reader.proofs.store_shots.Goals as goal

pub loop-i-init : goal.loop-i-init
loop-i-init c = (refl, next-all _ _ _ _)

pub put-requires : goal.put-requires
put-requires c = omega (arith, c.requires, c.loop-i.invariant.0)

pub loop-i-preserved : goal.loop-i-preserved
loop-i-preserved c = (
  c.put.auto.coords ∙ c.loop-i.invariant.0,
  underway-more c.loop-i.invariant.1 (shot_numbers c.in-Ok-Some.next.last) _
      (next_shot _ _ _ _ c.loop-i-test.true (sym (c.in-Ok-Some.is ∙ ap Ok c.in-Ok-Some.field-0-is) ∙ c.step.ensures)) c.put.ensures,
)

pub returns-in-Ok-None : goal.returns-in-Ok-None
returns-in-Ok-None c = wrote-front (underway-all c.loop-i.invariant.1 (next-ended _ _ _ _ c.loop-i-test.true (sym (c.in-Ok-None.is ∙ ap Ok c.in-Ok-None.field-0-is) ∙ c.step.ensures)))

pub returns-in-Err : goal.returns-in-Err
returns-in-Err c = wrote-front (underway-all c.loop-i.invariant.1 (next-stopped _ _ _ _ c.loop-i-test.true (sym c.in-Err.is ∙ c.step.ensures)))

pub returns : goal.returns
returns c = wrote-front (underway-all c.loop-i.invariant.1 (next-done _ _ _ _ (omega arith)))
