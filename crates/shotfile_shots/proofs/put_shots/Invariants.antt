-- The lines go in one after another. The invariant: the lines so far and those from the cursor on are all lines.
use Rattle.shotfile_shots.specs.ShotLines.{shot_lines}
use Rattle.shotfile_shots.proofs.ShotLaws.{Listed}
use Rattle.shotfile_shots.proofs.put_shots.Given as goal

abbrev pub invariant-loop-n : goal.invariant-loop-n
invariant-loop-n l = Listed l.bytes (shot_lines 4096 0 l.bytes l.initial.c) l.initial.out l.out l.at l.next l.c l.n
