-- The word is compared with each of the four.
use mathlib.Core.Path.{sym, ◌∙◌}
use Rattle.typed_line.proofs.Saying.{is_field, is-edge, is-grid, is_shot, is-unknown}
use Rattle.typed_line.proofs.entry.command_of.Goals as goal

pub returns-then-same_bytes : goal.returns-then-same_bytes
returns-then-same_bytes c = is_field _ (sym c.same_bytes.ensures ∙ c.if-same_bytes.true)

pub returns-then-same_bytes-2 : goal.returns-then-same_bytes-2
returns-then-same_bytes-2 c = is-edge _ (sym c.same_bytes.ensures ∙ c.if-same_bytes.false) (sym c.same_bytes-else-same_bytes.ensures ∙ c.if-same_bytes-2.true)

pub returns-then-same_bytes-3 : goal.returns-then-same_bytes-3
returns-then-same_bytes-3 c =
    is-grid _ (sym c.same_bytes.ensures ∙ c.if-same_bytes.false) (sym c.same_bytes-else-same_bytes.ensures ∙ c.if-same_bytes-2.false)
    (sym c.same_bytes-else-same_bytes-2.ensures ∙ c.if-same_bytes-3.true)

pub returns-then-same_bytes-4 : goal.returns-then-same_bytes-4
returns-then-same_bytes-4 c =
    is_shot _ (sym c.same_bytes.ensures ∙ c.if-same_bytes.false) (sym c.same_bytes-else-same_bytes.ensures ∙ c.if-same_bytes-2.false)
    (sym c.same_bytes-else-same_bytes-2.ensures ∙ c.if-same_bytes-3.false) (sym c.same_bytes-else-same_bytes-3.ensures ∙ c.if-same_bytes-4.true)

pub returns-else-same_bytes-4 : goal.returns-else-same_bytes-4
returns-else-same_bytes-4 c =
    is-unknown _ (sym c.same_bytes.ensures ∙ c.if-same_bytes.false) (sym c.same_bytes-else-same_bytes.ensures ∙ c.if-same_bytes-2.false)
    (sym c.same_bytes-else-same_bytes-2.ensures ∙ c.if-same_bytes-3.false) (sym c.same_bytes-else-same_bytes-3.ensures ∙ c.if-same_bytes-4.false)
