-- The invariant: what the text says is what the lines to come say after those above.
use Rattle.std.proofs.Common.{◌≡◌, ◌+◌, length, drop}
use Rattle.typed_line.specs.Words.{lines_of}
use Rattle.typed_list.specs.Lists.{typed_from, typed_list}
use Rattle.typed_list.proofs.check_text.Given as goal

abbrev pub invariant-loop-above : goal.invariant-loop-above
invariant-loop-above l = typed_from l.places l.d (length l.yielded + 1) (drop (length l.yielded) (lines_of l.text)) ≡ typed_list l.places l.text
