-- The columns before that of the loop are named.
use Rattle.sweep_image.specs.Images.{words_from}
use Rattle.sweep_names.specs.Names.{TellsBut}
use Rattle.sweep_names.proofs.name.Given as goal

abbrev pub invariant-loop-k : goal.invariant-loop-k
invariant-loop-k l = TellsBut l.field (words_from l.r l.k) l.l l.u l.names
