-- The invariant: the first n voxels are stored, and those from voxel n on are to come.
use mathlib.Core.Path.{◌≡◌}
use Prim.Native.Nat.{◌-◌}
use lib.ListN.{length}
use Rattle.job.specs.Job.{place_of}
use Rattle.buffer.proofs.Underway.{Underway}
use Rattle.vox.specs.Vox.{voxels}
use Rattle.vox.proofs.store_voxels.Given as goal

abbrev pub invariant-loop-n : goal.invariant-loop-n
invariant-loop-n l = (length l.coords ≡ length l.initial.coords) × Underway (voxels l.bytes 0 l.count) l.initial.coords l.coords 0 (place_of l.n) (voxels l.bytes l.n (l.count - l.n))
