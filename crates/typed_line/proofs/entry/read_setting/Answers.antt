-- One word, and no second.
use Rattle.std.proofs.Common.{arith}
use Rattle.std.proofs.lemmas.Result.{err_from_is_err_and}
use Rattle.typed_line.specs.Words.{words_of}
use Rattle.typed_line.proofs.Saying.{setting-wrong, setting-one}
use Rattle.typed_line.proofs.entry.read_setting.Goals as goal

pub returns-in_err-only_word : goal.returns-in_err-only_word
returns-in_err-only_word c =
    let p = err_from_is_err_and c.from_residual.result c.from_residual.ensures.1 in
    let h = setting-wrong c.args.which (words_of c.args.words.now) c.in_err-only_word.ensures in
    grind arith

pub returns-in_err-number : goal.returns-in_err-number
returns-in_err-number c =
    let p = err_from_is_err_and c.from_residual-in_err-number.result c.from_residual-in_err-number.ensures.1 in
    let h = setting-one c.args.which (words_of c.args.words.now) c.in_ok-only_word.ensures in
    grind arith

pub returns : goal.returns
returns c = let h = setting-one c.args.which (words_of c.args.words.now) c.in_ok-only_word.ensures in grind arith
