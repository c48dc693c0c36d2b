-- Two files, read and compared.
use mathlib.Core.Path.{sym, ◌∙◌}
use mathlib.Core.Bool.{false≢true}
use Rattle.acceptance.proofs.ShortestFiles.{first-unread, second-unread, both_read}
use Rattle.acceptance.proofs.shortest_files.same_file.Goals as goal
use Rattle.acceptance.proofs.shortest_files.same_file.Goals.{then-is_ok, else-is_ok}

pub returns-then-is_ok-2 : goal.returns-then-is_ok-2
returns-then-is_ok-2 c = elim c.if-is_ok.branch [
  | then-is_ok w ↦ both_read c.read-one.ensures c.read-two.ensures (λ i. (c.type_inv.bytes i).fits) (λ i. (c.type_inv.other_bytes i).fits) (sym c.is_ok.ensures.value ∙ w.if-is_ok.true) (sym w.is_ok-then-is_ok.ensures.value ∙ sym w.value-is ∙ c.if-is_ok-2.true) c.same_bytes.ensures
  | else-is_ok w ↦ absurd (false≢true (sym w.if-is_ok.false ∙ (sym w.value-is ∙ c.if-is_ok-2.true)))
]

pub returns-else-is_ok-2 : goal.returns-else-is_ok-2
returns-else-is_ok-2 c = elim c.if-is_ok.branch [
  | then-is_ok w ↦ second-unread c.read-one.ensures c.read-two.ensures (sym w.is_ok-then-is_ok.ensures.value ∙ sym w.value-is ∙ c.if-is_ok-2.false) c.if-is_ok-2.false
  | else-is_ok w ↦ first-unread c.read-one.ensures c.read-two.ensures (sym c.is_ok.ensures.value ∙ w.if-is_ok.false) c.if-is_ok-2.false
]
