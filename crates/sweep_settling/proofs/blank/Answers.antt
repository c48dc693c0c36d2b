-- Where eight words have no bit together, each is 0.
use Rattle.std.proofs.Common.{rules, arith, ◌≡◌, ◌+◌, ◌-◌, fold, bit_or, sym, ap, ◌∙◌, get_or}
use Rattle.std.specs.List.{between}
use Rattle.std.proofs.lemmas.List.Edits.{get_or-between}
use borrow.Author.Tests.{eqb-true}
use Rattle.sweep_settling.proofs.SettlingLaws.{fold-or-none}
use Rattle.sweep_settling.proofs.blank.Goals as goal

pub returns : goal.returns
returns c e i h k =
    let names = c.args.names.now in
    let y = c.args.y in
    let folded : c.fold.result ≡ fold bit_or 0 (between y (y + 8) names) = search rules in
    let each = (fold-or-none (between y (y + 8) names) 0 (sym folded ∙ eqb-true c.fold.result 0 e)).1 in
    ap (λ n. get_or names n 0) (omega arith) ∙ sym (get_or-between names y (y + 8) (i - y) 0 (omega arith)) ∙ each (i - y)
