-- Two orders, one field.
use mathlib.Core.Path.{refl}
use Rattle.acceptance.proofs.Requests.{sums-alike}
use Rattle.acceptance.proofs.credits.credit_in_two_orders.Goals as goal

pub returns : goal.returns
returns c = sums-alike c.credit-one.ensures c.credit-two.ensures refl
