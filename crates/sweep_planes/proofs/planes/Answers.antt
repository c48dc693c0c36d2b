use mathlib.Core.Path.{◌≡◌}
use Prim.Native.Nat.{◌+◌}
use lib.ListN.{get_or}
use native.Mathlib.Omega.{arith}
use Rattle.lattice_sums.proofs.CornerSumLaws.{room-more}
use Rattle.sweep_planes.proofs.PlanesLaws.{about, before-none, before_more, both-more, planes-none, plane-more, room-none, room_next, all_found, ends_on}
use Rattle.sweep_planes.proofs.planes.Goals as goal

pub loop-x-init : goal.loop-x-init
loop-x-init c = record { before = before-none _ _; images = c.requires.both; found = planes-none _ _ _; room = room-none c.new-t.ensures }

pub plane-t-requires : goal.plane-t-requires
plane-t-requires c = let asked = c.requires in
    let given = asked.given.0 in
    let inv = c.loop-x.invariant in
    let past = c.first_past-n.ensures in
    let ends : c.from-in-loop-x.result ≡ get_or c.args.ends.now c.loop-x.x 0 = rw c.from.ensures at c.from-in-loop-x.ensures in
    record {
      about = (
        about _ _ _ given _ _ _ _ _ inv.before c.pass-from.ensures past,
        given.field_least,
        omega arith,
        omega (arith, past.within, given.few),
        ends_on _ _ _ given _ _ _ ends inv.before.old_count asked.given.1,
      );
      both = (inv.images, asked.given.2, room-more _ _ _ (omega (arith, given.field_most)) inv.room);
    }

pub loop-x-preserved : goal.loop-x-preserved
loop-x-preserved c = let given = c.requires.given.0 in
    let inv = c.loop-x.invariant in
    let past = c.first_past-n.ensures in
    let turn = c.plane-t.ensures in
    record {
      before = before_more _ _ _ given _ _ _ _ _ inv.before c.pass-from.ensures past;
      images = both-more _ _ _ turn.both_2;
      found = plane-more _ _ _ given _ _ _ past _ inv.found turn.plane_out;
      room = room_next _ inv.room turn.plane_out;
    }

-- after the plane at the side of the field
pub returns-2 : goal.returns-2
returns-2 c = let given = c.requires.given.0 in
    let last : c.loop-x.x + 1 ≡ c.args.field + 1 = omega arith in
    all_found _ _ _ last _ c.new-t.ensures (plane-more _ _ _ given _ _ _ c.first_past-n.ensures _ c.loop-x.invariant.found c.plane-t.ensures.plane_out)
