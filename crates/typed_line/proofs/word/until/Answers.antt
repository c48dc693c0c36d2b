-- What stands before the place that is found, or the whole.
use Rattle.std.proofs.Common.{rules, ap, ◌∙◌, take, drop, tests}
use Rattle.std.proofs.lemmas.Iterator.{YieldsList-from_slice}
use Rattle.std.proofs.lemmas.Iterator.Search.{position_from_yields_List}
use Rattle.typed_line.proofs.Cutting.{before-take, before-found}
use Rattle.typed_line.proofs.word.until.Goals as goal

pub returns-clause-before : goal.returns-clause-before
returns-clause-before g c = λ p h.
    c.split_at.ensures.front
    ∙ (ap (λ k. take k c.args.s.now) (before-found p c.args.s.now
    (position_from_yields_List p _ _ c.position.result c.position.ensures.ran (YieldsList-from_slice c.args.s.now c.iter.ensures.rest) (λ x b q k. search (rules, tests, h)))
    c.unwrap_or-end.ensures)
    ∙ before-take p c.args.s.now)

pub returns-clause-rest : goal.returns-clause-rest
returns-clause-rest g c = λ p h.
    c.split_at.ensures.back
    ∙ ap (λ k. drop k c.args.s.now) (before-found p c.args.s.now
    (position_from_yields_List p _ _ c.position.result c.position.ensures.ran (YieldsList-from_slice c.args.s.now c.iter.ensures.rest) (λ x b q k. search (rules, tests, h)))
    c.unwrap_or-end.ensures)
