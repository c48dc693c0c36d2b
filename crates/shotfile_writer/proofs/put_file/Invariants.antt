-- `put_file` writes the file. The invariant: after the header the first records are written, and those from shot i on are to come.
-- Assumes nothing.
use mathlib.Core.Path.{◌≡◌}
use lib.ListN.{length}
use Rattle.buffer.proofs.Underway.{Underway}
use Rattle.shotfile_writer.proofs.Writing.{records_from}
use Rattle.shotfile_writer.proofs.put_file.Given as goal

abbrev pub invariant-loop-i : goal.invariant-loop-i
invariant-loop-i l = (length l.bytes ≡ length l.initial.bytes) × Underway (records_from l.job.edge l.job.coords.now 0 l.initial.last) l.initial.bytes l.bytes l.initial.at l.at (records_from l.job.edge l.job.coords.now l.i l.last)
