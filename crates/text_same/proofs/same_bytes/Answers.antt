use mathlib.Core.Path.{◌∙◌}
use Rattle.text_same.proofs.SameLaws.{pointwise-same}
use Rattle.text_same.proofs.same_bytes.Goals as goal

pub returns : goal.returns
returns c = c.eq.ensures ∙ pointwise-same c.args.a.now c.args.b.now
