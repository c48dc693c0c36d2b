-- A block without cells is met by none; else the first place of the run that passes the test decides.
use Rattle.crediting_carving.specs.Blocks.{meets_block}
use Rattle.crediting_carving.proofs.CarveLaws.{first-meets, position-place}
use Rattle.crediting_carving.proofs.first_meeting.Goals as goal

pub returns-clause-place : goal.returns-clause-place
returns-clause-place c = let a = c.args in first-meets _ _ _ _ c.is_empty.ensures c.if-is_empty.false (position-place (λ s. meets_block a.edge a.coords.now s a.block) a.run.now c.first_met.ensures)
