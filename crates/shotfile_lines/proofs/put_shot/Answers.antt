-- The labels with their values and the end of the line follow one another.
use mathlib.Core.Path.{ap}
use Rattle.buffer.proofs.WroteLaws.{wrote_then, wrote_as}
use Rattle.text_parts.specs.Text.{text}
use Rattle.shotfile_lines.specs.Lines.{labelled, shot_line}
use Rattle.shotfile_lines.proofs.put_shot.Goals as goal

pub returns : goal.returns
unfolding shot_line
returns c = wrote_then (wrote_as (ap (labelled (text "shot ")) c.from.ensures) c.put_labelled-x.ensures.wrote)
    (wrote_then (wrote_as (ap (labelled (text " ")) c.from-2.ensures) c.put_labelled-y.ensures.wrote)
    (wrote_then (wrote_as (ap (labelled (text " ")) c.from-3.ensures) c.put_labelled-z.ensures.wrote)
    (wrote_then c.put_labelled-numbered.ensures.wrote (wrote_then c.put_labelled-placed.ensures.wrote c.put_byte.ensures))))
