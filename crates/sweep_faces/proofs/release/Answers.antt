use mathlib.Core.Path.{◌≡◌}
use native.Mathlib.Omega.{arith}
use Rattle.sweep_names.proofs.NameLaws.{lent_still}
use Rattle.sweep_faces.proofs.FaceLaws.{becomes-none, becomes-more, released-all}
use Rattle.sweep_faces.proofs.release.Goals as goal

pub loop-q-init : goal.loop-q-init
loop-q-init c = (becomes-none, c.requires.1.tells)

pub release_face-requires : goal.release_face-requires
release_face-requires c = let p = c.requires in
    let inv = c.loop-q.invariant in
    (p.0, omega arith, lent_still p.1 inv.0.same_size inv.1)

pub loop-q-preserved : goal.loop-q-preserved
loop-q-preserved c = let inv = c.loop-q.invariant in
    let face = c.release_face.ensures in
    (becomes-more inv.0 face.becomes, face.tells)

pub returns : goal.returns
returns c = let m : c.loop-q.q ≡ c.args.old = omega (arith, c.requires.0.from_old) in
    record { becomes = released-all _ _ _ _ _ _ c.requires.0 (rw m at c.loop-q.invariant.0); tells = c.loop-q.invariant.1 }
