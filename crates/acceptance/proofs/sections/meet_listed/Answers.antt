-- `meet_listed` steps through the part of what `list` stored.
use mathlib.Core.Path.{sym, ◌∙◌}
use Prim.Native.Nat.{◌*◌}
use native.Mathlib.Omega.{arith}
use lib.Seq.{length-take-le}
use Rattle.acceptance.proofs.AnsweredLaws.{ok-some, ok-none}
use Rattle.acceptance.proofs.SectionLaws.{listed-fits, listed-met, listed-refused}
use Rattle.acceptance.proofs.sections.meet_listed.Goals as goal

pub overflow_mul-end : goal.overflow_mul-end
overflow_mul-end c = record { fits = omega (arith, listed-fits c.list.ensures (ok-some c.list.result (sym c.ok.ensures.value ∙ c.in_ok-totals.was))) }

pub slice_bounds-meet_at-end : goal.slice_bounds-meet_at-end
slice_bounds-meet_at-end c = omega (arith, listed-fits c.list.ensures (ok-some c.list.result (sym c.ok.ensures.value ∙ c.in_ok-totals.was)), c.list.auto.buffer)

pub slice_bounds-meet_at-end-2 : goal.slice_bounds-meet_at-end-2
slice_bounds-meet_at-end-2 c = sym (length-take-le (7 * c.in_ok-totals.totals.corners) c.list.new.buffer (omega (arith, listed-fits c.list.ensures (ok-some c.list.result (sym c.ok.ensures.value ∙ c.in_ok-totals.was)), c.list.auto.buffer)))

pub returns-in_err-totals : goal.returns-in_err-totals
returns-in_err-totals c = λ a. absurd (listed-refused c.list.ensures (ok-none c.list.result (sym c.ok.ensures.value ∙ c.in_err-totals.was)).1 a)

pub returns : goal.returns
returns c = λ a. listed-met c.list.ensures c.args.x c.args.steps (ok-some c.list.result (sym c.ok.ensures.value ∙ c.in_ok-totals.was)) c.meet_at.ensures
