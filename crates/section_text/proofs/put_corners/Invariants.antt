-- The lines of what the reader has left are still to come. Assumes nothing.
use Rattle.lattice.specs.Listing.{read_back}
use Rattle.section_text.proofs.TextLaws.{Lined}
use Rattle.section_text.proofs.put_corners.Given as goal

abbrev pub invariant-loop-corner : goal.invariant-loop-corner
invariant-loop-corner l = Lined l.initial.out l.out (read_back l.listing) l.corner-iterator l.next
