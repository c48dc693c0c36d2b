-- Room for the record, or not.
use Prim.Native.Nat.{◌+◌, ◌*◌, ◌-◌}
use mathlib.Core.Path.{◌≡◌}
use native.Mathlib.Omega.{arith}
use Rattle.std.proofs.Common.{rules}
use Rattle.std.proofs.lemmas.Slice.{overwrites}
use Rattle.sweep_tally.proofs.FoundLaws.{stored-none, stored_one}
use Rattle.sweep_tally.proofs.put.Goals as goal

pub returns-then-n-buf : goal.returns-then-n-buf
returns-then-n-buf c =
    let k : 7 * c.args.n + 7 - 7 * c.args.n ≡ 7 = omega arith in
    stored_one _ _ _ c.if-n-buf.true (rw (k, c.copy_from_slice.ensures.after) (search (rules, overwrites)))

pub returns-else-n-buf : goal.returns-else-n-buf
returns-else-n-buf c = stored-none _ _ _ c.if-n-buf.false
