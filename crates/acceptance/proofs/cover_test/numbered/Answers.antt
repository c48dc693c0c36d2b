-- Numbers of 16 bits leave room.
use native.Mathlib.Nat.{div-le_self}
use native.Mathlib.Omega.{arith}
use Rattle.acceptance.proofs.Numbers.{product-most}
use Rattle.acceptance.proofs.cover_test.numbered.Goals as goal

pub overflow_mul-result : goal.overflow_mul-result
overflow_mul-result c = rw c.from.ensures (omega (arith, product-most c.requires.high_bound c.ranges.grid.fits))

pub overflow_add-result : goal.overflow_add-result
overflow_add-result c = rw (c.from.ensures, c.from-2.ensures) (omega (arith, product-most c.requires.high_bound c.ranges.grid.fits, div-le_self c.args.cell c.args.width, c.ranges.cell.fits))
