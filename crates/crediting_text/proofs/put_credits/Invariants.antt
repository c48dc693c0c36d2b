-- The lines of the shots before that of the loop stand at the front.
use Rattle.crediting_text.proofs.TextLaws.{LinesTo}
use Rattle.crediting_text.proofs.put_credits.Given as goal

abbrev pub invariant-loop-shot : goal.invariant-loop-shot
invariant-loop-shot l = LinesTo l.credits l.initial.out l.out l.next l.shot
