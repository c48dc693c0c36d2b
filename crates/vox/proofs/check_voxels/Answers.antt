-- One test after the other, by what was counted.
use mathlib.Core.Path.{sym, ◌∙◌}
use Prim.Native.Nat.{◌+◌, ◌*◌}
use native.Mathlib.Omega.{arith}
use Rattle.refusals.proofs.FirstOf.{first-here}
use Rattle.vox_chunks.proofs.ChunkLaws.{matched-whole}
use Rattle.vox.specs.Vox.{voxel_count, voxel_tests}
use Rattle.vox.proofs.Ways.{miscounted, too_many, no_place, wrong, overrun, whole}
use Rattle.vox.proofs.check_voxels.Goals as goal

pub returns-then-is_missing : goal.returns-then-is_missing
unfolding voxel_tests
returns-then-is_missing c = first-here _ _ (sym c.is_missing.ensures ∙ c.if-is_missing.true)

pub returns-then-is_miscounted : goal.returns-then-is_miscounted
returns-then-is_miscounted c = miscounted c.args.places c.args.bytes.now (sym c.is_missing.ensures ∙ c.if-is_missing.false) (sym c.is_miscounted.ensures ∙ c.if-is_miscounted.true)

pub number-count-requires : goal.number-count-requires
number-count-requires c = omega (arith, matched-whole c.args.bytes.now 44 (4 + 4 * voxel_count c.args.bytes.now) (sym c.is_miscounted.ensures ∙ c.if-is_miscounted.false))

pub returns-then-count-gt4096 : goal.returns-then-count-gt4096
returns-then-count-gt4096 c = too_many c.args.places c.args.bytes.now (sym c.is_missing.ensures ∙ c.if-is_missing.false) (sym c.is_miscounted.ensures ∙ c.if-is_miscounted.false) c.number-count.ensures
    c.if-count-gt4096.true

pub returns-then-places-count : goal.returns-then-places-count
returns-then-places-count c = no_place c.args.places c.args.bytes.now (sym c.is_missing.ensures ∙ c.if-is_missing.false) (sym c.is_miscounted.ensures ∙ c.if-is_miscounted.false)
    c.number-count.ensures c.if-count-gt4096.false c.if-places-count.true

pub first_wrong-n-requires : goal.first_wrong-n-requires
first_wrong-n-requires c = omega (arith, matched-whole c.args.bytes.now 44 (4 + 4 * voxel_count c.args.bytes.now) (sym c.is_miscounted.ensures ∙ c.if-is_miscounted.false), c.number-count.ensures)

pub returns-then-n-count : goal.returns-then-n-count
returns-then-n-count c = wrong c.args.places c.args.bytes.now (sym c.is_missing.ensures ∙ c.if-is_missing.false)
    (sym c.is_miscounted.ensures ∙ c.if-is_miscounted.false) c.number-count.ensures c.if-count-gt4096.false c.if-places-count.false c.first_wrong-n.ensures
    c.if-n-count.true

pub returns-then-at-bytes : goal.returns-then-at-bytes
returns-then-at-bytes c = overrun c.args.places c.args.bytes.now (sym c.is_missing.ensures ∙ c.if-is_missing.false)
    (sym c.is_miscounted.ensures ∙ c.if-is_miscounted.false) c.number-count.ensures c.if-count-gt4096.false
    c.if-places-count.false c.first_wrong-n.ensures c.if-n-count.false c.first_overrun-at.ensures (omega arith)

pub returns : goal.returns
returns c = whole c.args.places c.args.bytes.now (sym c.is_missing.ensures ∙ c.if-is_missing.false)
    (sym c.is_miscounted.ensures ∙ c.if-is_miscounted.false) c.number-count.ensures c.if-count-gt4096.false
    c.if-places-count.false c.first_wrong-n.ensures c.if-n-count.false c.first_overrun-at.ensures (omega arith)
