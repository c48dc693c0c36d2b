use mathlib.Core.Path.{◌≡◌}
use Prim.Native.Nat.{◌/◌}
use native.Mathlib.Omega.{arith}
use Rattle.sweep_image.proofs.ImageLaws.{filled_more, filled-all}
use Rattle.sweep_image.proofs.WordLaws.{beside-then}
use Rattle.sweep_image.proofs.fill_rect.Goals as goal

pub loop-k-preserved : goal.loop-k-preserved
loop-k-preserved c = let inv = c.loop-k.invariant in
    let turn = c.fill_column.ensures in
    (omega arith, filled_more c.args.fill inv.1 turn.column_filled, beside-then inv.2 turn.beside)

pub returns-2-clause-turned : goal.returns-2-clause-turned
returns-2-clause-turned c = let at = c.loop-k in
    let given = c.args in
    let last : at.k ≡ given.r.to / 63 = omega arith in
    filled-all given.fill given.field (rw last at (filled_more given.fill at.invariant.1 c.fill_column.ensures.column_filled))
