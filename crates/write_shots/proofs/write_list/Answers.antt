-- The file is a part of the buffer that it was written into.
use Rattle.std.proofs.Common.{sym}
use Rattle.std.proofs.lemmas.List.{length-take-le}
use Rattle.write_shots.proofs.Fits.{written-within}
use Rattle.write_shots.proofs.write_list.Goals as goal

pub slice_bounds-bytes-end : goal.slice_bounds-bytes-end
slice_bounds-bytes-end c = written-within c.write.ensures c.in-Ok.is

pub slice_bounds-write_text-end : goal.slice_bounds-write_text-end
slice_bounds-write_text-end c =
    sym (length-take-le _ _ (written-within c.write.ensures c.in-Ok.is))
