use Rattle.std.proofs.Common.{rules, tests, refl, arith, ap, ◌∙◌}
use Rattle.std.proofs.lemmas.List.{length_push}
use Rattle.std.proofs.lemmas.Iterator.Consumers.{YieldsList-turn, YieldsList-end}
use Rattle.std.proofs.lemmas.Iterator.Splits.{YieldsList-from_slice_split}
use Rattle.buffer.proofs.Underway.{underway-none, underway-all, underway-room, underway-more, wrote-front}
use Rattle.typed_list.specs.Lists.{coords_of, shots_in}
use Rattle.typed_line.specs.Words.{newline}
use Rattle.typed_list.proofs.Listing.{line-turn, lines-over, shots-none, shots-line}
use Rattle.typed_list.proofs.store_text.Goals as goal

pub loop-line-init : goal.loop-line-init
loop-line-init c = (refl, underway-none _ _ _ (omega arith))

pub store_entry-n-requires : goal.store_entry-n-requires
store_entry-n-requires c =
    let t = YieldsList-turn (YieldsList-from_slice_split _ newline c.args.text.now (cc) (cc) (cc) (λ x b q k. search (rules, tests))) c.loop-line.yielded _ c.loop-line.yielded_by _ _ c.in-Some.line c.in-Some.is c.next.ensures.steps in
    underway-room c.loop-line.invariant.1 (coords_of c.read_line.result) _ (shots-line (line-turn c.args.text.now _ t) c.read_line.ensures) (omega (arith, c.requires))

pub loop-line-preserved : goal.loop-line-preserved
loop-line-preserved c =
    let t = YieldsList-turn (YieldsList-from_slice_split _ newline c.args.text.now (cc) (cc) (cc) (λ x b q k. search (rules, tests))) c.loop-line.yielded _ c.loop-line.yielded_by _ _ c.in-Some.line c.in-Some.is c.next.ensures.steps in
    rw (length_push c.loop-line.yielded c.in-Some.line) (
      c.store_entry-n.auto.coords ∙ c.loop-line.invariant.0,
      underway-more c.loop-line.invariant.1 (coords_of c.read_line.result) _ (shots-line (line-turn c.args.text.now _ t) c.read_line.ensures) c.store_entry-n.ensures,
    )

pub returns : goal.returns
returns c =
    let t = YieldsList-end (YieldsList-from_slice_split _ newline c.args.text.now (cc) (cc) (cc) (λ x b q k. search (rules, tests))) c.loop-line.yielded _ c.loop-line.yielded_by _ _ c.in-None.is c.next.ensures.steps in
    wrote-front (underway-all c.loop-line.invariant.1 (ap shots_in (lines-over c.args.text.now _ t.1) ∙ shots-none))
