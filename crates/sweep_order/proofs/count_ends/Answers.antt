use mathlib.Core.Path.{sym, ◌∙◌}
use Rattle.std.proofs.lemmas.List.{length_push}
use Rattle.sweep_order.proofs.OrderLaws.{ends_asked, ends_more, six_end, six-in, six-rest}
use Rattle.sweep_order.proofs.count_ends.Goals as goal

pub count_one-requires : goal.count_one-requires
count_one-requires c =
    let given = c.requires.0 in
    let kept = c.loop-ends.invariant in
    let cut = c.in-Some.ensures.steps.1 in
    let e = sym kept.rest ∙ cut.0 in
    let six = cut.1 ∙ kept.six in
    rw (six_end _ _ given.there _ _ _ e six) (ends_asked _ _ _ given _ _ (six-in _ _ given.there _ _ _ e six) kept.counted)

pub loop-ends-preserved : goal.loop-ends-preserved
loop-ends-preserved c =
    let given = c.requires.0 in
    let kept = c.loop-ends.invariant in
    let cut = c.in-Some.ensures.steps.1 in
    let e = sym kept.rest ∙ cut.0 in
    let six = cut.1 ∙ kept.six in
    let set = rw (six_end _ _ given.there _ _ _ e six) at c.count_one.ensures in
    rw (length_push c.loop-ends.yielded c.in-Some.ends) (record {
      six = c.in-Some.ensures.steps.0 ∙ kept.six;
      rest = six-rest _ _ given.there _ _ _ e six;
      counted = ends_more _ _ _ given _ _ _ (six-in _ _ given.there _ _ _ e six) kept.counted set;
    })
