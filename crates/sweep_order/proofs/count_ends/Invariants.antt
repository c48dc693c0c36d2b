-- Box after box.
use Rattle.std.proofs.Common.{◌≡◌, length}
use Rattle.sweep_order.specs.Order.{EndsRow}
use Rattle.sweep_order.proofs.OrderLaws.{sixes_from}
use Rattle.sweep_order.proofs.count_ends.Given as goal

abbrev pub invariant-loop-ends : goal.invariant-loop-ends
invariant-loop-ends l = record {
  six : l.ends-iterator.size ≡ 6;
  rest : l.ends-iterator.rest.now ≡ sixes_from l.boxes l.count (length l.yielded);
  counted : EndsRow l.boxes (length l.yielded) l.row;
}
