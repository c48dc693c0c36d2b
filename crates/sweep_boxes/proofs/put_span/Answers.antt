-- One end after the other.
use Rattle.sweep_boxes.proofs.BoxLaws.{span-put}
use Rattle.sweep_boxes.proofs.put_span.Goals as goal

pub returns : goal.returns
returns c = span-put _ _ _ _ c.requires.1
