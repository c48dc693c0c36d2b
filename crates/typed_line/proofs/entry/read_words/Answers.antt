-- The first word decides on the others.
use Rattle.std.proofs.Common.{arith, ◌∙◌}
use Rattle.std.proofs.lemmas.Result.{err_from_is_err_and}
use Rattle.typed_line.proofs.Saying.{says_nothing, says-wrong, says-set, says-shot}
use Rattle.typed_line.proofs.entry.read_words.Goals as goal

pub returns-in_default : goal.returns-in_default
returns-in_default c = says_nothing c.in_default.ensures.words

pub returns-in_err-which : goal.returns-in_err-which
returns-in_err-which c =
    let p = err_from_is_err_and c.from_residual.result c.from_residual.ensures.1 in
    let h = says-wrong c.in-Some.ensures.words c.in_err-which.ensures in
    grind arith

pub returns-in-Set : goal.returns-in-Set
returns-in-Set c = c.read_setting.ensures ∙ says-set c.in-Some.ensures.words c.in_ok-which.ensures c.in-Set.is

pub returns-in-Shoot : goal.returns-in-Shoot
returns-in-Shoot c = c.read_shot.ensures ∙ says-shot c.in-Some.ensures.words c.in_ok-which.ensures c.in-Shoot.is
