-- Each answer of measuring has its text.
use mathlib.Core.Path.{sym, ap}
use Rattle.buffer.proofs.WroteLaws.{wrote_as}
use Rattle.quoting_text.specs.Quoting.{answer_text}
use Rattle.quoting_text.proofs.put_answer.Goals as goal

pub returns-in-Ok : goal.returns-in-Ok
unfolding answer_text
returns-in-Ok c = wrote_as (ap answer_text (sym c.in-Ok.is)) c.quote_lines.ensures

pub returns-in-Err : goal.returns-in-Err
unfolding answer_text
returns-in-Err c = wrote_as (ap answer_text (sym c.in-Err.is)) c.refuse.ensures
