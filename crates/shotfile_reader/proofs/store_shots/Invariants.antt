-- `store_shots` stores the next n shots. The invariant: the first i shots are stored, and those from the cursor on are to come.
-- Assumes nothing.
use mathlib.Core.Path.{◌≡◌}
use Prim.Native.Nat.{◌-◌}
use lib.ListN.{length}
use Rattle.job.specs.Job.{place_of}
use Rattle.buffer.proofs.Underway.{Underway}
use Rattle.shotfile_reader.specs.Files.{next_shots}
use Rattle.shotfile_reader.proofs.store_shots.Given as goal

abbrev pub invariant-loop-i : goal.invariant-loop-i
invariant-loop-i l = (length l.coords ≡ length l.initial.coords) × Underway (next_shots l.n l.bytes l.initial.c) l.initial.coords l.coords 0 (place_of l.i) (next_shots (l.n - l.i) l.bytes l.c)
