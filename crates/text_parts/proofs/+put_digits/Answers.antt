-- A number in decimal, by the digits before the last; the number of digits allowed falls at each call.
use native.Mathlib.Omega.{arith}
use Prim.Native.Nat.{◌-◌, ◌/◌}
use Rattle.text_parts.proofs.LineLaws.{digits-length, number-none, number-last, number_more}
use Rattle.text_parts.proofs.+put_digits.Goals as goal

pub returns-then-n-eq0 : goal.returns-then-n-eq0
returns-then-n-eq0 t c = number-none c.args.n c.args.a c.args.out.now c.args.at c.if-n-eq0.true c.requires

pub returns-then-a-lt10 : goal.returns-then-a-lt10
returns-then-a-lt10 t c = number-last c.args.n c.args.a c.if-n-eq0.false c.if-a-lt10.true c.digit.ensures c.put_byte.ensures

pub put_byte-requires-2 : goal.put_byte-requires-2
put_byte-requires-2 t c = omega (arith, c.put_digits-next.ensures.next, digits-length (c.args.n - 1) (c.args.a / 10), c.put_digits-next.auto.out)

pub returns : goal.returns
returns t c = number_more c.args.n c.args.a c.if-n-eq0.false c.if-a-lt10.false c.put_digits-next.ensures c.digit-2.ensures c.put_byte-2.ensures
