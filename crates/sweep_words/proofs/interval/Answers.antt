-- Both at once, bit by bit.
use mathlib.Core.Path.{◌∙◌, ap₂}
use mathlib.Core.Bool.{◌&&◌}
use Rattle.sweep_words.proofs.BitLaws.{bit-and}
use Rattle.sweep_words.proofs.interval.Goals as goal

pub returns : goal.returns
returns c i h = bit-and c.after.result c.up_to.result i ∙ ap₂ ◌&&◌ (c.after.ensures i h) (c.up_to.ensures i h)
