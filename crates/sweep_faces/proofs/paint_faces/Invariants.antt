-- Face after face.
use Rattle.sweep_faces.specs.Layers.{Becomes}
use Rattle.sweep_names.specs.Names.{Tells}
use Rattle.sweep_overlaps.specs.Overlaps.{shade}
use Rattle.sweep_faces.proofs.paint_faces.Given as goal

abbrev pub invariant-loop-q : goal.invariant-loop-q
invariant-loop-q l = Becomes l.field (shade l.boxes l.x l.old) (shade l.boxes l.x l.q) l.initial.u l.u × Tells l.field l.l l.u l.names
