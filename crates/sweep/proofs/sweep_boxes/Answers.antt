-- The row of ends is blank at first.
use Rattle.sweep.proofs.SweepLaws.{ends-none}
use Rattle.sweep.proofs.sweep_boxes.Goals as goal

pub count_ends-requires : goal.count_ends-requires
count_ends-requires c = (c.requires, ends-none _)
