-- One test after the other.
use mathlib.Core.Path.{sym, ◌∙◌}
use native.Mathlib.Omega.{arith}
use Rattle.text_parts.specs.Text.{text}
use Rattle.refusals.proofs.FirstOf.{first-here, first_next, first-none}
use Rattle.vox_chunks.proofs.ChunkLaws.{some_left, matched-whole}
use Rattle.vox.specs.Vox.{opening_tests}
use Rattle.vox.proofs.check_opening.Goals as goal

pub returns-then-is_unmarked : goal.returns-then-is_unmarked
unfolding opening_tests
returns-then-is_unmarked c = first-here _ _ (sym c.is_unmarked.ensures ∙ c.if-is_unmarked.true)

pub returns-then-is_missing : goal.returns-then-is_missing
unfolding opening_tests
returns-then-is_missing c = first_next _ _ (sym c.is_unmarked.ensures ∙ c.if-is_unmarked.false) (first-here _ _ (sym c.is_missing.ensures ∙ c.if-is_missing.true))

pub returns-then-is_unfilled : goal.returns-then-is_unfilled
unfolding opening_tests
returns-then-is_unfilled c = first_next _ _ (sym c.is_unmarked.ensures ∙ c.if-is_unmarked.false)
    (first_next _ _ (sym c.is_missing.ensures ∙ c.if-is_missing.false) (first-here _ _ (sym c.is_unfilled.ensures ∙ c.if-is_unfilled.true)))

pub returns-then-is_missing-2 : goal.returns-then-is_missing-2
unfolding opening_tests
returns-then-is_missing-2 c = first_next _ _ (sym c.is_unmarked.ensures ∙ c.if-is_unmarked.false)
    (first_next _ _ (sym c.is_missing.ensures ∙ c.if-is_missing.false)
    (first_next _ _ (sym c.is_unfilled.ensures ∙ c.if-is_unfilled.false) (first-here _ _ (sym c.is_missing-2.ensures ∙ c.if-is_missing-2.true))))

pub is_mismatched-requires : goal.is_mismatched-requires
is_mismatched-requires c = omega (arith, some_left c.args.bytes.now 20 (text "SIZE") (sym c.is_missing-2.ensures ∙ c.if-is_missing-2.false))

pub returns-then-is_mismatched : goal.returns-then-is_mismatched
unfolding opening_tests
returns-then-is_mismatched c = first_next _ _ (sym c.is_unmarked.ensures ∙ c.if-is_unmarked.false)
    (first_next _ _ (sym c.is_missing.ensures ∙ c.if-is_missing.false)
    (first_next _ _ (sym c.is_unfilled.ensures ∙ c.if-is_unfilled.false)
    (first_next _ _ (sym c.is_missing-2.ensures ∙ c.if-is_missing-2.false) (first-here _ _ (sym c.is_mismatched.ensures ∙ c.if-is_mismatched.true)))))

pub has_wrong_side-requires : goal.has_wrong_side-requires
has_wrong_side-requires c = matched-whole c.args.bytes.now 20 12 (sym c.is_mismatched.ensures ∙ c.if-is_mismatched.false)

pub returns-then-has_wrong_side : goal.returns-then-has_wrong_side
unfolding opening_tests
returns-then-has_wrong_side c = first_next _ _ (sym c.is_unmarked.ensures ∙ c.if-is_unmarked.false)
    (first_next _ _ (sym c.is_missing.ensures ∙ c.if-is_missing.false)
    (first_next _ _ (sym c.is_unfilled.ensures ∙ c.if-is_unfilled.false)
    (first_next _ _ (sym c.is_missing-2.ensures ∙ c.if-is_missing-2.false)
    (first_next _ _ (sym c.is_mismatched.ensures ∙ c.if-is_mismatched.false) (first-here _ _ (sym c.has_wrong_side.ensures ∙ c.if-has_wrong_side.true))))))

pub returns : goal.returns
unfolding opening_tests
returns c = first_next _ _ (sym c.is_unmarked.ensures ∙ c.if-is_unmarked.false)
    (first_next _ _ (sym c.is_missing.ensures ∙ c.if-is_missing.false)
    (first_next _ _ (sym c.is_unfilled.ensures ∙ c.if-is_unfilled.false)
    (first_next _ _ (sym c.is_missing-2.ensures ∙ c.if-is_missing-2.false)
    (first_next _ _ (sym c.is_mismatched.ensures ∙ c.if-is_mismatched.false) (first_next _ _ (sym c.has_wrong_side.ensures ∙ c.if-has_wrong_side.false) first-none)))))
