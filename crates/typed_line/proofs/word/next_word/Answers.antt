-- Past the blanks, and to the next blank.
use Rattle.std.proofs.Common.{rules, sym, arith, ◌∙◌}
use Rattle.std.proofs.lemmas.Bool.{eqb-true, eqb-false}
use Rattle.typed_line.specs.Words.{blank, inked}
use Rattle.typed_line.proofs.Cutting.{word-none, word-some, word-place}
use Rattle.typed_line.proofs.word.next_word.Goals as goal

pub returns-then-is_empty-clause-words : goal.returns-then-is_empty-clause-words
returns-then-is_empty-clause-words c = word-none _ (c.until.ensures.rest inked (λ b r k. search rules)) (eqb-true _ _ (sym c.is_empty.ensures ∙ c.if-is_empty.true))

pub returns-clause-words : goal.returns-clause-words
returns-clause-words c =
    let some = eqb-false _ _ (sym c.is_empty.ensures ∙ c.if-is_empty.false) in
    word-some _ (c.until.ensures.rest inked (λ b r k. search rules)) (omega arith)
    (c.until-2.ensures.before blank (λ b r k. k)) (c.until-2.ensures.rest blank (λ b r k. k))

pub returns-clause-place : goal.returns-clause-place
returns-clause-place c =
    word-place _ (c.until.ensures.rest inked (λ b r k. search rules))
    (c.until-2.ensures.before blank (λ b r k. k)) (c.until-2.ensures.rest blank (λ b r k. k))
