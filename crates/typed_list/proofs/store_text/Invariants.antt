-- The invariant: the first n shots are stored, and those of the lines to come are still to be.
use Rattle.std.proofs.Common.{◌≡◌, length, drop}
use Rattle.job.specs.Job.{place_of}
use Rattle.buffer.proofs.Underway.{Underway}
use Rattle.typed_list.specs.Lists.{shots_in}
use Rattle.typed_line.specs.Words.{lines_of}
use Rattle.typed_list.proofs.store_text.Given as goal

abbrev pub invariant-loop-line : goal.invariant-loop-line
invariant-loop-line l =
    (length l.coords ≡ length l.initial.coords)
    × Underway (shots_in (lines_of l.text)) l.initial.coords l.coords 0 (place_of l.n) (shots_in (drop (length l.yielded) (lines_of l.text)))
