-- The images show the layers of the boxes about the plane, before and after.
use Rattle.sweep_names.proofs.NameLaws.{lent_still}
use Rattle.sweep_plane.proofs.PlaneLaws.{shown-about, plane-found, settled-both}
use Rattle.sweep_plane.proofs.turn.Goals as goal

pub lines-s-requires-clause-layers : goal.lines-s-requires-clause-layers
lines-s-requires-clause-layers c = let asked = c.requires in
    (record { solid = _; shown = shown-about _ _ _ asked.about.0 asked.both.0 c.renew.ensures.becomes }, c.renew.ensures.tells)

pub returns : goal.returns
returns c = let asked = c.requires in
    let layer = c.renew.ensures in
    record { plane_out = plane-found _ _ _ asked.about.0 (shown-about _ _ _ asked.about.0 asked.both.0 layer.becomes) c.lines-s.ensures; both_2 = settled-both (lent_still asked.both.0.lent layer.becomes.same_size layer.tells) layer.becomes asked.both.0.upper c.settle.ensures }
