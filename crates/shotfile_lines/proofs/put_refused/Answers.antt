-- The number, the place, the sentence and the end of the line follow one another.
use mathlib.Core.Path.{ap, ap₂, ◌∙◌}
use native.Mathlib.Omega.{arith}
use Rattle.buffer.proofs.WroteLaws.{wrote_then, wrote_as}
use Rattle.text_parts.specs.Text.{text}
use Rattle.text_wording.proofs.SentenceLaws.{sentence-length}
use Rattle.shotfile_lines.specs.Lines.{labelled, place_text, refused_line}
use Rattle.shotfile_lines.proofs.put_refused.Goals as goal

pub put_byte-requires : goal.put_byte-requires
put_byte-requires c = omega (arith, c.put_sentence-said.ensures, sentence-length c.args.refusal)

pub returns : goal.returns
unfolding refused_line
returns c = let told = c.notice_of-told.ensures in
    wrote_then (wrote_as (ap (labelled (text "refused ")) (c.from.ensures ∙ told.number)) c.put_labelled-numbered.ensures.wrote)
    (wrote_then (wrote_as (ap₂ place_text told.met told.detail) c.put_place-placed.ensures.wrote)
    (wrote_then c.put_word-split.ensures (wrote_then c.put_sentence-said.ensures c.put_byte.ensures)))
