-- Each answer of crediting has its text.
use mathlib.Core.Path.{sym}
use lib.Seq.{length-take-le}
use Rattle.crediting_text.proofs.TextLaws.{shots-there, shots-few, list-credited, list-refused}
use Rattle.crediting_text.proofs.credit_list.Goals as goal

pub slice_bounds-put_credits-end : goal.slice_bounds-put_credits-end
slice_bounds-put_credits-end c = shots-there c.credit-checked.ensures c.in-Ok.is c.count-shots.ensures

pub slice_bounds-put_credits-end-in-Ok : goal.slice_bounds-put_credits-end-in-Ok
slice_bounds-put_credits-end-in-Ok c = sym (length-take-le _ _ (shots-there c.credit-checked.ensures c.in-Ok.is c.count-shots.ensures))

pub put_credits-requires : goal.put_credits-requires
put_credits-requires c = shots-few c.credit-checked.ensures c.in-Ok.is c.count-shots.ensures
    c.requires

pub returns-in-Ok : goal.returns-in-Ok
returns-in-Ok c = list-credited c.credit-checked.ensures c.in-Ok.is c.count-shots.ensures
    c.put_credits.ensures

pub returns-in-Err : goal.returns-in-Err
returns-in-Err c = list-refused c.credit-checked.ensures c.in-Err.refusal c.in-Err.is c.refuse.ensures
