-- One word more.
use mathlib.Core.Path.{◌∙◌, ap}
use lib.ListN.{get_or, set}
use native.Mathlib.Omega.{arith}
use Rattle.std.proofs.lemmas.List.{get_or_default}
use Rattle.std.proofs.lemmas.List.Edits.{map_over_more}
use Rattle.sweep_image.proofs.change_rows.Goals as goal

pub loop-w-preserved : goal.loop-w-preserved
loop-w-preserved g c h is = let at = c.loop-w in
    let w = get_or at.rows at.w-index 0 in
    ap (set at.rows at.w-index) (is _ _ c.change.ensures)
    ∙ map_over_more h c.args.rows.now at.rows at.w-index w (omega arith) (at.invariant h is) (get_or_default at.rows at.w-index 0 w (omega arith))
