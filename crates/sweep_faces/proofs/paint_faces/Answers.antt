use mathlib.Core.Path.{◌≡◌}
use native.Mathlib.Omega.{arith}
use Rattle.sweep_names.proofs.NameLaws.{lent_still}
use Rattle.sweep_faces.proofs.FaceLaws.{becomes-none, becomes-more}
use Rattle.sweep_faces.proofs.paint_faces.Goals as goal

pub loop-q-init : goal.loop-q-init
loop-q-init c = (becomes-none, c.requires.1.tells)

pub paint_face-requires : goal.paint_face-requires
paint_face-requires c = let p = c.requires in
    let inv = c.loop-q.invariant in
    (p.0, omega arith, omega arith, lent_still p.1 inv.0.same_size inv.1)

pub loop-q-preserved : goal.loop-q-preserved
loop-q-preserved c = let inv = c.loop-q.invariant in
    let face = c.paint_face.ensures in
    (becomes-more inv.0 face.becomes, face.tells)

pub returns : goal.returns
returns c = let m : c.loop-q.q ≡ c.args.n = omega (arith, c.requires.0.old_n) in
    record { becomes = rw m at c.loop-q.invariant.0; tells = c.loop-q.invariant.1 }
