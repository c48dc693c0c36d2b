-- The sums of sixteen bits tell the four tests of the definition.
use native.Mathlib.Omega.{arith}
use Rattle.lattice.specs.Boxes.{box_at}
use Rattle.sweep_overlaps.proofs.FourLaws.{four-tests}
use Rattle.sweep_overlaps.proofs.overlaps.Goals as goal

pub returns : goal.returns
returns c = let given = c.args in
    let box = box_at given.boxes.now given.i in
    let inside = c.requires.first_boxes.inside given.i (omega arith) in
    let ends = c.four-ends in
    let bounds = c.four-bounds in
    let ends_of_box = rw c.rect-t.ensures at ends.ensures in
    four-tests box given.r inside c.requires.rect_in ends.result bounds.result ends_of_box bounds.ensures
