-- The voxels are checked after the opening.
use mathlib.Core.Path.{sym, ◌∙◌}
use Rattle.std.proofs.lemmas.Result.{err_from_is_err_and}
use Rattle.vox.proofs.Passed.{opening-refused, opening-passed, size-whole}
use Rattle.vox.proofs.check_file.Goals as goal

pub returns-in_err-check_opening : goal.returns-in_err-check_opening
returns-in_err-check_opening c = let p = err_from_is_err_and c.from_residual.result c.from_residual.ensures.1 in
    rw (p.1, p.2) (opening-refused c.args.places c.args.bytes.now (sym c.in_err-check_opening.was ∙ c.check_opening.ensures))

pub check_voxels-requires : goal.check_voxels-requires
check_voxels-requires c = size-whole c.args.places c.args.bytes.now (sym c.in_ok-check_opening.was ∙ c.check_opening.ensures)

pub returns : goal.returns
returns c = opening-passed c.args.places c.args.bytes.now (sym c.in_ok-check_opening.was ∙ c.check_opening.ensures) c.check_voxels.ensures
