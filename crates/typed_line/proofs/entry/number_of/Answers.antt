-- A byte that is no digit, a number that grows too large, or the number.
use Rattle.std.proofs.Common.{ℕ, ◌*◌, ◌+◌, ◌-◌, get_or, drop, rules, tests, arith, sym, ap, ◌∙◌}
use Rattle.std.proofs.lemmas.Iterator.{YieldsList-from_slice}
use Rattle.std.proofs.lemmas.Iterator.Search.{all_from_yields_List}
use Rattle.text_parts.specs.Decimal.{value_from}
use Rattle.typed_line.specs.Entries.{digit}
use Rattle.typed_line.proofs.Numbers.{digits-tested, value-least, value_on, value-end, number-not, number-large, number_is}
use Rattle.typed_line.proofs.entry.number_of.Goals as goal

pub returns-then-not-all : goal.returns-then-not-all
returns-then-not-all c =
    number-not c.args.word.now
    (sym (digits-tested c.args.word.now)
    ∙ (sym (all_from_yields_List digit _ _ c.all.result c.all.ensures.ran (YieldsList-from_slice c.args.word.now c.iter.ensures.rest) (λ x b q k. search (rules, tests)))
    ∙ c.if-not-all.true))

pub returns-then-number-gt65535 : goal.returns-then-number-gt65535
returns-then-number-gt65535 c =
    number-large c.args.word.now
    (sym (digits-tested c.args.word.now)
    ∙ (sym (all_from_yields_List digit _ _ c.all.result c.all.ensures.ran (YieldsList-from_slice c.args.word.now c.iter.ensures.rest) (λ x b q k. search (rules, tests)))
    ∙ c.if-not-all.false))
    (omega (
      arith,
      c.if-number-gt65535.true,
      c.from.ensures,
      c.loop-digit.invariant.1,
      value_on c.args.word.now c.loop-digit.number c.loop-digit.digit-index c.loop-digit-test.true,
      value-least (c.loop-digit.number * 10 + (get_or c.args.word.now c.loop-digit.digit-index 0 - 48)) (drop (c.loop-digit.digit-index + 1) c.args.word.now),
    ))

pub loop-digit-preserved : goal.loop-digit-preserved
loop-digit-preserved c = (
  omega arith,
  ap (λ (k : ℕ). value_from (c.loop-digit.number * 10 + k) (drop (c.loop-digit.digit-index + 1) c.args.word.now)) c.from.ensures
      ∙ (sym (value_on c.args.word.now c.loop-digit.number c.loop-digit.digit-index c.loop-digit-test.true) ∙ c.loop-digit.invariant.1),
)

pub returns : goal.returns
returns c =
    number_is c.args.word.now c.loop-digit.number
    (sym (digits-tested c.args.word.now)
    ∙ (sym (all_from_yields_List digit _ _ c.all.result c.all.ensures.ran (YieldsList-from_slice c.args.word.now c.iter.ensures.rest) (λ x b q k. search (rules, tests)))
    ∙ c.if-not-all.false))
    (sym c.loop-digit.invariant.1 ∙ value-end c.args.word.now c.loop-digit.number c.loop-digit.digit-index c.loop-digit-test.false)
    c.loop-digit.invariant.0
