use native.Mathlib.Omega.{arith}
use Rattle.price_bands.proofs.CheckLaws.{none-passed, one-passed, faulty-next, top-missing, all-good, too-many}
use Rattle.price_bands.proofs.check.Goals as goal

pub returns-then-bands-gt-MOST_BANDS : goal.returns-then-bands-gt-MOST_BANDS
returns-then-bands-gt-MOST_BANDS c = too-many _ c.if-bands-gt-MOST_BANDS.true

pub loop-i-init : goal.loop-i-init
loop-i-init c = none-passed _

pub returns-then-not-is_good : goal.returns-then-not-is_good
returns-then-not-is_good c = faulty-next _ c.loop-i.invariant c.if-bands-gt-MOST_BANDS.false c.loop-i-test.true c.if-not-is_good.ensures

pub loop-i-preserved : goal.loop-i-preserved
loop-i-preserved c = one-passed _ c.loop-i.invariant c.loop-i-test.true c.if-not-is_good.ensures

pub returns-then-due-ne-PAST_TOP : goal.returns-then-due-ne-PAST_TOP
returns-then-due-ne-PAST_TOP c = top-missing _ c.loop-i.invariant c.if-bands-gt-MOST_BANDS.false (omega arith) c.if-due-ne-PAST_TOP.true

pub returns : goal.returns
returns c = all-good _ c.loop-i.invariant c.if-bands-gt-MOST_BANDS.false (omega arith) c.if-due-ne-PAST_TOP.false
