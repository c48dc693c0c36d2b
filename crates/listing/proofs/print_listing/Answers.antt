-- The listing is a part of the buffer that it was made in.
use Rattle.std.proofs.Common.{sym, arith}
use Rattle.std.proofs.lemmas.List.{length-take-le}
use Rattle.listing_file.proofs.ListingLaws.{listed-fits}
use Rattle.listing.proofs.print_listing.Goals as goal

pub overflow_mul-n : goal.overflow_mul-n
overflow_mul-n c = omega (arith, listed-fits c.list_file.ensures c.in-Ok.is)

pub slice_bounds-write_text-end : goal.slice_bounds-write_text-end
slice_bounds-write_text-end c =
    omega (arith, listed-fits c.list_file.ensures c.in-Ok.is, c.list_file.auto.buffer)

pub slice_bounds-write_text-end-in-Ok : goal.slice_bounds-write_text-end-in-Ok
slice_bounds-write_text-end-in-Ok c =
    sym
    (length-take-le _ _
    (omega (arith, listed-fits c.list_file.ensures c.in-Ok.is, c.list_file.auto.buffer)))
