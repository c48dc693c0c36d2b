-- A face that begins on the plane is put in beside the boxes before it.
use native.Mathlib.Omega.{arith}
use Rattle.sweep_overlaps.proofs.PartLaws.{boxes-less}
use Rattle.sweep_faces.proofs.FaceLaws.{rect-in, painted-face}
use Rattle.sweep_faces.proofs.paint_face.Goals as goal

pub paint_rect-requires : goal.paint_rect-requires
paint_rect-requires c = let p = c.requires in
    let r = rect-in _ _ _ _ _ _ p.0 _ _ p.2 c.rect-r.ensures in
    record { high_le_field = r.0; to_le_field = r.1; first_boxes = boxes-less _ (omega (arith, p.2)) p.0.known; from_le_to = omega (arith, p.1, p.0.from_old); lent = p.3 }

pub returns : goal.returns
returns c = let p = c.requires in
    record { becomes = painted-face _ _ _ _ _ _ p.0 _ _ c.rect-r.ensures p.1 p.2 c.paint_rect.ensures.painted; tells = c.paint_rect.ensures.tells }
