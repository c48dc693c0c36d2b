-- A span on each axis.
use Rattle.sweep_boxes.proofs.BoxLaws.{box-put}
use Rattle.sweep_boxes.proofs.put_box.Goals as goal

pub returns : goal.returns
returns c = box-put _ _ _ _ c.edge_of-e.ensures c.x_of-x.ensures c.y_of-y.ensures c.z_of-z.ensures
    c.put_span.ensures c.put_span-2.ensures c.put_span-3.ensures
