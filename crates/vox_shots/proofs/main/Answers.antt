-- The buffer is as long as it says; this is cited, since a list of that length is not to be written out.
use Rattle.std.proofs.Common.{ℕ, sym}
use Rattle.std.proofs.lemmas.List.{length-replicate}
use Rattle.vox_shots.proofs.main.Goals as goal

pub slice_bounds-write_input-end : goal.slice_bounds-write_input-end
slice_bounds-write_input-end c = sym (length-replicate {A = ℕ} 1048576 0)
