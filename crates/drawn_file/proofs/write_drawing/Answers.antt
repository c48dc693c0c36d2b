-- The VOX file is read, and the list that it holds is written.
use Rattle.std.proofs.lemmas.Result.{err_from_is_err_and}
use Rattle.drawn_file.proofs.DrawnLaws.{voxels-there, file-undrawn, file-drawn}
use Rattle.drawn_file.proofs.write_drawing.Goals as goal

pub returns-in_err-list : goal.returns-in_err-list
returns-in_err-list c = let p = err_from_is_err_and c.from_residual.result c.from_residual.ensures.1 in
    rw (p.1, p.2) (file-undrawn c.read_vox.ensures c.in_err-list.field-0.0 c.in_err-list.was)

pub job-requires : goal.job-requires
job-requires c = voxels-there c.read_vox.ensures c.in_ok-list.was

pub returns : goal.returns
returns c = file-drawn c.read_vox.ensures c.in_ok-list.was c.job.ensures c.write.ensures
