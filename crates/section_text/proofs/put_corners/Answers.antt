-- The lines of the records go in one after another, as the reader gives them.
use mathlib.Core.Path.{ap, ◌∙◌}
use native.Mathlib.Omega.{arith}
use Rattle.section.specs.declared.Corners.{Corners}
use Rattle.section.proofs.RecordLaws.{length-read_back}
use Rattle.section_text.proofs.TextLaws.{lined-none, lined-room, lined-more, lined-all}
use Rattle.section_text.proofs.put_corners.Goals as goal

pub loop-corner-init : goal.loop-corner-init
loop-corner-init c = let opened = c.open-corner-items.ensures in
    let same = c.into_iter-corner-iterator.ensures.into_iter_gives in
    lined-none (ap (λ (r : Corners). r.listing.now) same ∙ ap (λ b. b.now) opened.0) (ap (λ (r : Corners). r.at) same ∙ opened.1)

pub put_corner-next-requires : goal.put_corner-next-requires
put_corner-next-requires c = omega (arith, lined-room c.loop-corner.invariant c.in-Some.ensures.steps, length-read_back c.args.listing.now, c.requires, c.loop-corner.auto.out)

pub loop-corner-preserved : goal.loop-corner-preserved
loop-corner-preserved c = lined-more c.loop-corner.invariant c.in-Some.ensures.steps c.put_corner-next.ensures

pub returns : goal.returns
returns c = lined-all c.loop-corner.invariant c.in-None.ensures.steps
