-- The shot file is a part of the slice that it was written into.
use Rattle.std.proofs.Common.{sym}
use Rattle.std.proofs.lemmas.List.{length-take-le}
use Rattle.drawn_file.proofs.DrawnLaws.{drawn-within}
use Rattle.vox_shots.proofs.write_file.Goals as goal

pub slice_bounds-file-end : goal.slice_bounds-file-end
slice_bounds-file-end c = drawn-within c.write_drawing.ensures c.in-Ok.is

pub slice_bounds-write_text-end : goal.slice_bounds-write_text-end
slice_bounds-write_text-end c =
    sym (length-take-le _ _ (drawn-within c.write_drawing.ensures c.in-Ok.is))
