-- A coordinate is its two bytes, the least first.
use Prim.Native.Nat.{◌/◌, ◌%◌}
use mathlib.Core.Path.{◌≡◌}
use native.Mathlib.Omega.{arith}
use Rattle.lattice.specs.Listing.{corner_record}
use Rattle.sweep_tally.proofs.record_of.Goals as goal

pub returns : goal.returns
unfolding corner_record
returns c = let x : c.args.x / 256 % 256 ≡ c.args.x / 256 = omega arith in
    let y : c.args.y / 256 % 256 ≡ c.args.y / 256 = omega arith in
    let z : c.args.z / 256 % 256 ≡ c.args.z / 256 = omega arith in
    rw (c.to_le_bytes.ensures, c.to_le_bytes-2.ensures, c.to_le_bytes-3.ensures, x, y, z)
