-- The cells of the block that the shot covers are counted and credited to it.
use native.Mathlib.Omega.{arith}
use Rattle.crediting_carving.proofs.MeetLaws.{met-shot}
use Rattle.crediting_carving.proofs.CarveLaws.{core-counted, core-room}
use Rattle.crediting_carving.proofs.credit_shared.Goals as goal

pub shared-core-requires : goal.shared-core-requires
shared-core-requires c = met-shot c.args.edge c.args.coords.now c.args.shot c.args.block c.requires.meets

pub size-requires : goal.size-requires
size-requires c =
    let p = core-counted c.args.edge c.args.coords.now c.args.shot c.args.block c.requires.meets c.requires.small c.shared-core.ensures in
    record { ordered = p.0; small = p.1 }

pub add-requires : goal.add-requires
add-requires c = record { shot_in_bounds = omega (arith, met-shot c.args.edge c.args.coords.now c.args.shot c.args.block c.requires.meets, c.requires.coords_in_bounds); room_for = core-room c.args.edge c.args.coords.now c.args.shot c.args.block c.shared-core.ensures c.requires.meets c.size.ensures c.requires.room_for }
