-- Face after face.
use Rattle.sweep_faces.specs.Layers.{released, Becomes}
use Rattle.sweep_names.specs.Names.{Tells}
use Rattle.sweep_faces.proofs.release.Given as goal

abbrev pub invariant-loop-q : goal.invariant-loop-q
invariant-loop-q l = Becomes l.field (released l.boxes l.x l.old l.from) (released l.boxes l.x l.old l.q) l.initial.u l.u × Tells l.field l.l l.u l.names
