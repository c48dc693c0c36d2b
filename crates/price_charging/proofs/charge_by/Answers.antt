-- The charge of a valid table does not wrap. Assumes nothing.
use mathlib.Core.Path.{ap}
use Prim.Native.Nat.{◌*◌}
use native.Mathlib.Omega.{arith}
use Rattle.price_charging.proofs.ChargeLaws.{charge-fits}
use Rattle.price_charging.proofs.charge_by.Goals as goal

pub overflow_mul-result : goal.overflow_mul-result
overflow_mul-result c = omega (arith, charge-fits c.requires.valid c.args.amount c.requires.below_top, ap (λ n. c.args.amount * n) c.lookup.ensures)
