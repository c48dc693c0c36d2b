-- The buffer is as long as it says; this is cited, since a list of that length is not to be written out.
use Rattle.std.proofs.Common.{ℕ, sym}
use Rattle.std.proofs.lemmas.List.{length-replicate}
use Rattle.listing.proofs.print_with_room.Goals as goal

pub slice_bounds-print_listing-end : goal.slice_bounds-print_listing-end
slice_bounds-print_listing-end c = sym (length-replicate {A = ℕ} 917504 0)
