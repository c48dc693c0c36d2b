-- A face that ends on the plane is carved from the boxes that reach past it; any other stays.
use native.Mathlib.Omega.{arith}
use Rattle.sweep_overlaps.proofs.PartLaws.{boxes-less}
use Rattle.sweep_faces.proofs.FaceLaws.{rect-in, released-face, released-same}
use Rattle.sweep_faces.proofs.release_face.Goals as goal

pub carve_rect-requires : goal.carve_rect-requires
carve_rect-requires c = let asked = c.requires in
    let fits = rect-in _ _ _ _ _ _ asked.0 _ _ (omega (arith, asked.1, asked.0.old_n)) c.rect-r.ensures in
    record { high_le_field = fits.0; to_le_field = fits.1; first_boxes = boxes-less _ asked.0.old_n asked.0.known; from_le_to = asked.0.from_old; lent = asked.2 }

pub returns-then-boxes-q : goal.returns-then-boxes-q
returns-then-boxes-q c = record { becomes = released-face _ _ _ _ _ _ c.requires.0 _ _ c.rect-r.ensures c.if-boxes-q.true c.carve_rect.ensures.carved; tells = c.carve_rect.ensures.tells }

pub returns-else-boxes-q : goal.returns-else-boxes-q
returns-else-boxes-q c = record { becomes = released-same _ _ _ _ _ _ c.requires.0 _ c.if-boxes-q.false; tells = c.requires.2.tells }
