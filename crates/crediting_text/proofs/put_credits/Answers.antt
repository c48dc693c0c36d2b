use native.Mathlib.Omega.{arith}
use Rattle.crediting_text.proofs.TextLaws.{lines_none, lines_next, lines-room, lines-all}
use Rattle.crediting_text.proofs.put_credits.Goals as goal

pub loop-shot-init : goal.loop-shot-init
loop-shot-init c = lines_none c.args.credits.now c.args.out.now

pub put_credit-next-requires : goal.put_credit-next-requires
put_credit-next-requires c = omega (arith, lines-room c.args.credits.now c.args.out.now c.loop-shot.shot c.loop-shot.invariant (omega arith) c.requires, c.loop-shot.auto.out)

pub loop-shot-preserved : goal.loop-shot-preserved
loop-shot-preserved c = lines_next c.args.credits.now c.args.out.now c.loop-shot.shot c.loop-shot.invariant c.put_credit-next.ensures

pub returns : goal.returns
returns c = lines-all c.args.credits.now c.args.out.now c.loop-shot.shot (omega arith) c.loop-shot.invariant
