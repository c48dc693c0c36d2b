use mathlib.Core.Path.{◌≡◌, refl, ◌∙◌, ap}
use Prim.Native.Nat.{◌+◌}
use native.Mathlib.Omega.{arith}
use lib.ListN.{length}
use Rattle.crediting_carving.specs.Blocks.{part_of}
use Rattle.crediting_carving.proofs.AddedLaws.{added_none}
use Rattle.crediting_carving.proofs.CarveLaws.{sides-none, sides-next, none-credited, rest_part, rest-less, carve-ready, block-carved, side-place}
use Rattle.crediting_carving.proofs.+carve.Goals as goal

pub returns-in_default : goal.returns-in_default
returns-in_default t c = added_none c.args.credits.now _ (none-credited c.args.edge c.args.coords.now c.args.run.now c.args.block (length c.args.run.now) c.in_default.ensures.place refl)

pub loop-side-init : goal.loop-side-init
loop-side-init t c = sides-none _ _ _ _ _ _

pub carve-requires : goal.carve-requires
carve-requires t c = let met = c.in-Some.ensures in
    let side = c.loop-side.side-index in (
      rest-less c.args.run.now c.in-Some.place c.decreases met.in_run,
      carve-ready c.args.edge c.args.coords.now c.args.run.now c.args.block c.in-Some.place met.place met.in_run refl c.credit_shared-core.ensures.value (rest_part c.args.run.now (c.in-Some.place + 1)) c.args.credits.now c.credit_shared-core.new.credits c.loop-side.credits c.credit_shared-core.ensures.credits_after side (omega arith) c.loop-side.invariant (c.part.ensures ∙ ap (part_of c.args.block c.credit_shared-core.result) (side-place side _ (omega arith))) (c.requires.small, (c.requires.coords_in_bounds, c.requires.room_for)),
    )

pub loop-side-preserved : goal.loop-side-preserved
loop-side-preserved t c = let side = c.loop-side.side-index in
    let part = c.part.ensures ∙ ap (part_of c.args.block c.credit_shared-core.result) (side-place side _ (omega arith)) in
    sides-next _ _ _ _ _ c.credit_shared-core.new.credits side c.loop-side.credits _ c.loop-side.invariant (rw (← part) c.carve.ensures)

pub returns : goal.returns
returns t c = let met = c.in-Some.ensures in
    let six : c.loop-side.side-index ≡ 6 = omega arith in
    block-carved c.args.edge c.args.coords.now c.args.run.now c.args.block c.in-Some.place met.place met.in_run refl c.credit_shared-core.ensures.value (rest_part c.args.run.now (c.in-Some.place + 1)) c.args.credits.now c.credit_shared-core.new.credits c.loop-side.credits c.credit_shared-core.ensures.credits_after (rw six at c.loop-side.invariant)
