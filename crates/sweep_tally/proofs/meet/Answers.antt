-- The corner is stored and added.
use mathlib.Core.Path.{◌∙◌, ap}
use Rattle.sweep_tally.specs.Found.{corner_of, stored_record}
use Rattle.sweep_tally.proofs.FoundLaws.{met}
use Rattle.sweep_tally.proofs.meet.Goals as goal

pub returns : goal.returns
returns c = met _ _ (corner_of c.args.x c.args.y c.args.z c.args.p) c.add.ensures (c.put.ensures ∙ ap (stored_record c.args.buf.now c.args.t.corners) c.record_of.ensures)
