-- The name with its value, the note and the end of the line follow one another.
use mathlib.Core.Path.{ap}
use Rattle.buffer.proofs.WroteLaws.{wrote_then, wrote_as}
use Rattle.shotfile_lines.specs.Lines.{labelled, setting_line}
use Rattle.shotfile_lines.proofs.LineLaws.{note-told}
use Rattle.shotfile_lines.proofs.put_setting.Goals as goal

pub returns-clause-wrote : goal.returns-clause-wrote
unfolding setting_line
returns-clause-wrote c = wrote_then (wrote_as (ap (labelled c.args.name.now) c.from.ensures) c.put_labelled-valued.ensures.wrote)
    (wrote_then (wrote_as (note-told c.args.bit) c.put_note-noted.ensures.wrote) c.put_byte.ensures)
