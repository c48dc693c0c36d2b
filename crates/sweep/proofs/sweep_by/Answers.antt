-- Blank images of so many words hold the field.
use Rattle.sweep.proofs.SweepLaws.{both-blank}
use Rattle.sweep.proofs.sweep_by.Goals as goal

pub planes-requires-clause-both : goal.planes-requires-clause-both
planes-requires-clause-both g c = let p = c.requires in both-blank _ _ _ p.0.field_most p.2
