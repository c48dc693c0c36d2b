-- The last eight rows reach past the field.
use mathlib.Core.Path.{◌∙◌}
use native.Mathlib.Omega.{arith}
use Rattle.sweep_image.proofs.ChangeLaws.{changed-join}
use Rattle.sweep_settling.proofs.SettlingLaws.{settled}
use Rattle.sweep_settling.proofs.settle.Goals as goal

pub returns : goal.returns
returns c = let at = c.loop-y.invariant in
    settled (omega arith) at.1 at.0 at.2 c.requires.lower

pub returns-2 : goal.returns-2
returns-2 c = let at = c.loop-y.invariant in
    let turn = c.settle_eight.ensures in
    settled (omega arith) (changed-join (omega arith) (omega arith) at.1 turn.changed) turn.tells (turn.l_len_unchanged ∙ at.2) c.requires.lower
