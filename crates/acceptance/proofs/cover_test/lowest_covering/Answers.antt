-- A refused list and a cell outside are not asked about.
use mathlib.Core.Path.{sym, ◌∙◌}
use Rattle.acceptance.proofs.AnsweredLaws.{ok-some, ok-none}
use Rattle.acceptance.proofs.CoverTest.{unasked, outside-unasked, covered-lowest}
use Rattle.measure_intake.proofs.IntakeLaws.{accepted-holds}
use Rattle.acceptance.proofs.cover_test.lowest_covering.Goals as goal

pub returns-then-outside : goal.returns-then-outside
returns-then-outside c = outside-unasked (sym c.outside.ensures ∙ c.if-outside.true)

pub returns : goal.returns
returns c = covered-lowest _ _ _ _ c.covering.ensures

pub returns-in_err-ok : goal.returns-in_err-ok
returns-in_err-ok c = unasked c.indexed.ensures (ok-none c.indexed.result (sym c.ok.ensures.value ∙ c.in_err-ok.was)).1

pub invariant_of-covering : goal.invariant_of-covering
invariant_of-covering c = record { holds = accepted-holds c.indexed.ensures (ok-some c.indexed.result (sym c.ok.ensures.value ∙ c.in_ok-ok.was)) }
