-- `file_length` adds up the records' lengths. The invariant: the sum so far and the rest make the whole. Assumes nothing.
use lib.ListN.{length}
use Rattle.job.specs.Job.{seen}
use Rattle.shotfile_writer.specs.Files.{file_of}
use Rattle.shotfile_writer.proofs.Writing.{Measured}
use Rattle.shotfile_writer.proofs.file_length.Given as goal

abbrev pub invariant-loop-i : goal.invariant-loop-i
invariant-loop-i l = Measured l.job.edge l.job.coords.now l.last l.i l.total (length (file_of (seen l.job)))
