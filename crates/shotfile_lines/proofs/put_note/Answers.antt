-- The note where the setting does not stand.
use Rattle.buffer.proofs.WroteLaws.{wrote_as}
use Rattle.shotfile_lines.proofs.LineLaws.{note-stands, note-absent}
use Rattle.shotfile_lines.proofs.put_note.Goals as goal

pub returns-then-stands-clause-wrote : goal.returns-then-stands-clause-wrote
returns-then-stands-clause-wrote c = rw c.if-stands.true (note-stands c.args.out.now c.args.at c.requires)

pub returns-clause-wrote : goal.returns-clause-wrote
returns-clause-wrote c = rw c.if-stands.false (wrote_as note-absent c.put_word.ensures)
