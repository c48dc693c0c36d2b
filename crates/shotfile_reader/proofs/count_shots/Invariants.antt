-- `count_shots` counts the shots. The invariant: the count of all shots is n and that of the rest. Assumes nothing.
use Rattle.shotfile_reader.specs.Files.{shots_from}
use Rattle.shotfile_reader.specs.Calls.{count_of}
use Rattle.shotfile_reader.proofs.Steps.{Counting}
use Rattle.shotfile_reader.proofs.count_shots.Given as goal

abbrev pub invariant-loop-n : goal.invariant-loop-n
invariant-loop-n l = Counting l.bytes l.places (count_of (shots_from 4096 l.places l.bytes l.initial.c)) l.c l.n
