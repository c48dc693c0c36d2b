use Rattle.std.proofs.Common.{◌+◌, length, rules, tests, sym, ap, ◌∙◌}
use Rattle.std.specs.Prelude.{Ok, Err}
use Rattle.std.specs.List.{slice_split}
use Rattle.std.proofs.lemmas.List.{length_push}
use Rattle.std.proofs.lemmas.List.FromFn.{length-enumerate_from}
use Rattle.std.proofs.lemmas.Iterator.Consumers.{YieldsList-from_enumerate, YieldsList-turn, YieldsList-end}
use Rattle.std.proofs.lemmas.Iterator.Splits.{YieldsList-from_slice_split}
use Rattle.std.proofs.lemmas.Result.{err_from_is_err_and}
use Rattle.typed_line.specs.Words.{newline}
use Rattle.typed_list.specs.Lists.{typed_from}
use Rattle.typed_list.proofs.Listing.{line-count, lines-over, goes, stops, typed-end, typed-stops, typed-goes, typed-start}
use Rattle.typed_list.proofs.check_text.Goals as goal

pub loop-above-init : goal.loop-above-init
loop-above-init c = typed-start c.args.places c.args.text.now c.nothing_yet-d.ensures

pub loop-above-preserved : goal.loop-above-preserved
loop-above-preserved c =
    let t = YieldsList-turn (YieldsList-from_enumerate (YieldsList-from_slice_split _ newline c.args.text.now (cc) (cc) (cc) (λ x b q k. search (rules, tests))) (cc)) c.loop-above.yielded _ c.loop-above.yielded_by _ _ (c.in-Some.above, c.in-Some.line) c.in-Some.is c.next.ensures.steps in
    let n = line-count c.args.text.now _ t in
    rw (length_push c.loop-above.yielded (c.in-Some.above, c.in-Some.line))
    (sym (typed-goes c.args.places c.loop-above.d _ n.1 c.read_line.ensures (goes _ c.then.result c.map_err.result c.map_err.ensures.cases c.in_ok-d.was ∙ c.then.ensures)) ∙ c.loop-above.invariant)

pub returns-in_err-d : goal.returns-in_err-d
returns-in_err-d c =
    let t = YieldsList-turn (YieldsList-from_enumerate (YieldsList-from_slice_split _ newline c.args.text.now (cc) (cc) (cc) (λ x b q k. search (rules, tests))) (cc)) c.loop-above.yielded _ c.loop-above.yielded_by _ _ (c.in-Some.above, c.in-Some.line) c.in-Some.is c.next.ensures.steps in
    let n = line-count c.args.text.now _ t in
    let s = stops _ c.then.result c.map_err.result c.map_err.ensures.cases c.in_err-d.was in
    let p = err_from_is_err_and c.from_residual.result c.from_residual.ensures.1 in
    p.1
    ∙ (ap Err (p.2 ∙ (search (rules, s.2) ∙ ap (λ k. record { line = k + 1; mistake = s.0 }) n.0))
    ∙ (sym (typed-stops c.args.places c.loop-above.d _ n.1 c.read_line.ensures (s.1 ∙ c.then.ensures)) ∙ c.loop-above.invariant))

pub returns : goal.returns
returns c =
    let t = YieldsList-end (YieldsList-from_enumerate (YieldsList-from_slice_split _ newline c.args.text.now (cc) (cc) (cc) (λ x b q k. search (rules, tests))) (cc)) c.loop-above.yielded _ c.loop-above.yielded_by _ _ c.in-None.is c.next.ensures.steps in
    let none = lines-over c.args.text.now _ (t.1 ∙ length-enumerate_from 0 (slice_split newline c.args.text.now)) in
    ap Ok c.list_of.ensures ∙ (sym (typed-end c.args.places c.loop-above.d (length c.loop-above.yielded + 1)) ∙ (ap (typed_from c.args.places c.loop-above.d (length c.loop-above.yielded + 1)) (sym none) ∙ c.loop-above.invariant))
