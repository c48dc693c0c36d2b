use mathlib.Core.Path.{◌≡◌, ◌∙◌}
use native.Mathlib.Omega.{arith}
use Rattle.sweep_image.proofs.WordLaws.{beside_none, beside-then}
use Rattle.sweep_names.proofs.NameLaws.{lent-beside}
use Rattle.sweep_overlaps.proofs.PartLaws.{boxes-less}
use Rattle.sweep_carving.proofs.CarvingLaws.{boxes-none, boxes-more, boxes-all}
use Rattle.sweep_carving.proofs.again.Goals as goal

pub fill_rect-requires : goal.fill_rect-requires
fill_rect-requires c = let lent = c.requires.lent in
    record { rect_in = (c.requires.rect_in, lent.small); field_in_bounds = lent.upper }

pub loop-i-init : goal.loop-i-init
loop-i-init c = (boxes-none _ _ _ _ _ _, beside_none _ _)

pub fill_common-requires : goal.fill_common-requires
fill_common-requires c = let lent = c.requires.lent in
    let inv = c.loop-i.invariant in
    let same = inv.0.same_size ∙ c.fill_rect.ensures.turned.same_size in
    record { rect_in = c.requires.rect_in; first_boxes = boxes-less _ (omega arith) c.requires.first_boxes; field_bound = (lent.small, omega (arith, same, lent.upper)) }

pub loop-i-preserved : goal.loop-i-preserved
loop-i-preserved c = let inv = c.loop-i.invariant in
    let turn = c.fill_common.ensures in
    (boxes-more _ _ _ _ _ _ (omega arith) _ _ _ inv.0 turn.turned, beside-then inv.1 turn.beside)

pub name-requires : goal.name-requires
name-requires c = let lent = c.requires.lent in
    let inv = c.loop-i.invariant in
    let cleared = c.fill_rect.ensures in
    let same = inv.0.same_size ∙ cleared.turned.same_size in
    record { rect_in = c.requires.rect_in; lent_but = lent-beside lent same (beside-then cleared.beside inv.1) }

pub returns : goal.returns
returns c = let at = c.loop-i in
    let cleared = c.fill_rect.ensures in
    let given = c.args in
    let last : at.i ≡ given.to = omega (arith, c.requires.from_le_to) in
    record { turned = boxes-all _ _ _ _ _ _ _ _ _ cleared.turned (rw last at at.invariant.0); tells = c.name.ensures }
