-- A box that does not meet the rectangle has no cell of it; of one that does, what it has of the rectangle is set.
use Rattle.sweep_image.proofs.WordLaws.{beside_none}
use Rattle.sweep_overlaps.proofs.PartLaws.{boxes-small, rect-small}
use Rattle.sweep_carving.proofs.CarvingLaws.{box-missed, box-painted, common-fits, common-beside}
use Rattle.sweep_carving.proofs.fill_common.Goals as goal

pub meets-requires : goal.meets-requires
meets-requires c = record { first_boxes = boxes-small c.requires.field_bound.0 c.requires.first_boxes; rect_in = rect-small c.requires.field_bound.0 c.requires.rect_in }

pub returns-else-meets : goal.returns-else-meets
returns-else-meets c = let given = c.args in
    let missed = c.if-meets.false in
    record { turned = box-missed given.field given.boxes.now given.x given.i given.r c.meets.ensures missed _; beside = beside_none given.r _ }

pub fill_rect-requires : goal.fill_rect-requires
fill_rect-requires c = let given = c.args in
    let test = c.meets.ensures in
    let met = c.if-meets.true in
    let core = c.common.ensures in
    let fits =
    common-fits given.field given.boxes.now given.x given.i given.r c.requires.rect_in c.requires.first_boxes test met core in
    record { rect_in = (fits, c.requires.field_bound.0); field_in_bounds = c.requires.field_bound.1 }

pub returns-then-meets : goal.returns-then-meets
returns-then-meets c = let given = c.args in
    let test = c.meets.ensures in
    let met = c.if-meets.true in
    let core = c.common.ensures in
    let done = c.fill_rect.ensures in
    record { turned = box-painted given.field given.boxes.now given.x given.i given.r test met core _ _ done.turned; beside = common-beside given.field given.boxes.now given.x given.i given.r core done.beside }
