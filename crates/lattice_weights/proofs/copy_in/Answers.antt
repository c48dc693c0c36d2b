use native.Mathlib.Omega.{arith}
use mathlib.Core.Path.{◌≡◌, sym, ◌∙◌, subst}
use Rattle.lattice.specs.Pattern.{of_byte}
use Rattle.lattice_weights.specs.Packed.{place}
use Rattle.lattice_weights.proofs.PackedLaws.{place-small, tag-place, weight-place, weight-read, PackedTo, packed_none, packed_more, packed_all}
use Rattle.lattice_weights.proofs.copy_in.Goals as goal

pub loop-q-init : goal.loop-q-init
loop-q-init c = packed_none (place c.args.which) c.requires

pub loop-q-preserved : goal.loop-q-preserved
loop-q-preserved c = let l = c.loop-q in
    let k = c.args.which in
    let read = weight-read (place k) (place-small k) (of_byte l.q) (c.table-entry-items.ensures.entry l.q c.loop-q-test.true ∙ sym (weight-place k (of_byte l.q))) in
    rw (tag-place k) (packed_more (place k) l.q l.t _ (place-small k) c.loop-q-test.true read l.invariant)

pub returns : goal.returns
returns c = let l = c.loop-q in
    let q : l.q ≡ 256 = omega arith in
    packed_all (place c.args.which) (subst (λ q. PackedTo (place c.args.which) q l.t) q l.invariant)
