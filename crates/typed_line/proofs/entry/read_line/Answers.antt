-- A line that has nothing in front of its comment says nothing.
use Rattle.std.proofs.Common.{rules, sym, ap, ◌∙◌}
use Rattle.std.proofs.lemmas.Bool.{eqb-true}
use Rattle.typed_line.specs.Words.{hash, words_of}
use Rattle.typed_line.proofs.Cutting.{words-empty}
use Rattle.typed_line.proofs.Saying.{says_nothing}
use Rattle.typed_line.proofs.entry.read_line.Goals as goal

pub returns-then-is_empty : goal.returns-then-is_empty
returns-then-is_empty c =
    says_nothing (ap words_of (sym (c.until.ensures.before hash (λ b r k. search rules)))
    ∙ words-empty _ (eqb-true _ _ (sym c.is_empty.ensures ∙ c.if-is_empty.true)))
