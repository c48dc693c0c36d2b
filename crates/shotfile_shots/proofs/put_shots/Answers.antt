use mathlib.Core.Path.{sym, ap, ◌∙◌}
use native.Mathlib.Omega.{arith}
use Rattle.std.specs.Prelude.{Ok}
use Rattle.buffer.proofs.WroteLaws.{wrote-length}
use Rattle.shotfile_shots.proofs.ShotLaws.{listed-none, listed-shot, listed-stopped, listed-ended, listed-all, listed-many}
use Rattle.shotfile_shots.proofs.put_shots.Goals as goal

pub loop-n-init : goal.loop-n-init
loop-n-init c = listed-none c.args.bytes.now c.args.out.now c.args.at c.args.start c.requires

pub put_shot-next-requires : goal.put_shot-next-requires
put_shot-next-requires c = omega (arith, c.requires, c.loop-n.invariant.few, c.loop-n-test.true, wrote-length c.loop-n.invariant.wrote)

pub put_refused-requires : goal.put_refused-requires
put_refused-requires c = omega (arith, c.requires, c.loop-n.invariant.few, c.loop-n-test.true, wrote-length c.loop-n.invariant.wrote)

pub shape_of-out-in-Err : goal.shape_of-out-in-Err
shape_of-out-in-Err c = c.put_refused.auto.out ∙ wrote-length c.loop-n.invariant.wrote

pub returns-in-Err : goal.returns-in-Err
returns-in-Err c = let all = listed-stopped c.loop-n.invariant c.loop-n-test.true
    (sym c.in-Err.is ∙ c.step.ensures) c.put_refused.ensures in
    record { wrote = all.0; few = all.1 }

pub shape_of-out-in-Ok-None : goal.shape_of-out-in-Ok-None
shape_of-out-in-Ok-None c = wrote-length c.loop-n.invariant.wrote

pub returns-in-Ok-None : goal.returns-in-Ok-None
returns-in-Ok-None c = let all = listed-ended c.loop-n.invariant c.loop-n-test.true (sym (c.in-Ok-None.is ∙ ap Ok c.in-Ok-None.field-0-is) ∙ c.step.ensures) in
    record { wrote = all.0; few = all.1 }

pub loop-n-preserved : goal.loop-n-preserved
loop-n-preserved c = listed-shot c.loop-n.invariant c.loop-n-test.true
    (sym (c.in-Ok-Some.is ∙ ap Ok c.in-Ok-Some.field-0-is) ∙ c.step.ensures) c.put_shot-next.ensures

pub shape_of-out-then-bytes-c : goal.shape_of-out-then-bytes-c
shape_of-out-then-bytes-c c = wrote-length c.loop-n.invariant.wrote

pub returns-then-bytes-c : goal.returns-then-bytes-c
returns-then-bytes-c c = let all = listed-all c.loop-n.invariant (omega (arith, c.loop-n-test.false)) c.if-bytes-c.true in
    record { wrote = all.0; few = all.1 }

pub put_refused-requires-2 : goal.put_refused-requires-2
put_refused-requires-2 c = omega (arith, c.requires, c.loop-n.invariant.few, c.loop-n.auto, wrote-length c.loop-n.invariant.wrote)

pub shape_of-out : goal.shape_of-out
shape_of-out c = c.put_refused-2.auto.out ∙ wrote-length c.loop-n.invariant.wrote

pub returns : goal.returns
returns c = let all = listed-many c.loop-n.invariant (omega (arith, c.loop-n-test.false)) c.if-bytes-c.false c.put_refused-2.ensures in
    record { wrote = all.0; few = all.1 }
