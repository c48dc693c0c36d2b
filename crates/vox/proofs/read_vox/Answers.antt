-- The file is checked whole before anything is stored.
use mathlib.Core.Path.{sym, ap, ◌∙◌}
use native.Mathlib.Omega.{arith}
use Rattle.std.proofs.lemmas.Result.{err_from_is_err_and}
use Rattle.refusals.specs.Tests.{first_of}
use Rattle.vox.specs.Vox.{vox_tests}
use Rattle.vox.proofs.Passed.{passed-has, largest-few, vox-refused, vox-read}
use Rattle.vox.proofs.read_vox.Goals as goal

pub number-shots-requires : goal.number-shots-requires
number-shots-requires c = omega (arith, (passed-has _ c.args.bytes.now (sym c.in_ok-check_file.was ∙ c.check_file.ensures ∙ ap (λ n. first_of (vox_tests n c.args.bytes.now)) c.count.ensures)).whole)

pub store_voxels-requires : goal.store_voxels-requires
store_voxels-requires c = record {
  count_in_bounds = omega (arith, (passed-has _ c.args.bytes.now (sym c.in_ok-check_file.was ∙ c.check_file.ensures ∙ ap (λ n. first_of (vox_tests n c.args.bytes.now)) c.count.ensures)).whole, c.number-shots.ensures);
  count_bound = omega
      (arith, (passed-has _ c.args.bytes.now (sym c.in_ok-check_file.was ∙ c.check_file.ensures ∙ ap (λ n. first_of (vox_tests n c.args.bytes.now)) c.count.ensures)).room, c.number-shots.ensures);
}

pub largest_side-requires : goal.largest_side-requires
largest_side-requires c = record {
  in_bounds = omega (arith, (passed-has _ c.args.bytes.now (sym c.in_ok-check_file.was ∙ c.check_file.ensures ∙ ap (λ n. first_of (vox_tests n c.args.bytes.now)) c.count.ensures)).whole);
  bytes_bound = largest-few
      (passed-has _ c.args.bytes.now (sym c.in_ok-check_file.was ∙ c.check_file.ensures ∙ ap (λ n. first_of (vox_tests n c.args.bytes.now)) c.count.ensures));
}

pub returns-in_err-check_file : goal.returns-in_err-check_file
returns-in_err-check_file c = let p = err_from_is_err_and c.from_residual.result c.from_residual.ensures.1 in
    rw (p.1, p.2) (vox-refused c.args.bytes.now c.args.coords.now (sym c.in_err-check_file.was ∙ c.check_file.ensures ∙ ap (λ n. first_of (vox_tests n c.args.bytes.now)) c.count.ensures))

pub returns : goal.returns
returns c = vox-read c.args.bytes.now c.args.coords.now
    (sym c.in_ok-check_file.was ∙ c.check_file.ensures ∙ ap (λ n. first_of (vox_tests n c.args.bytes.now))
    c.count.ensures) c.number-shots.ensures c.largest_side.ensures c.store_voxels.ensures
