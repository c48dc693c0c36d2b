-- The product of two sides of at most 1024 is at most 2²⁰.
use Rattle.std.proofs.Common.{rules, arith, ◌≤◌}
use Rattle.std.proofs.Math.Nat.{mul-le-mul}
use Rattle.sweep_image.proofs.Rect.size.Goals as goal

pub returns : goal.returns
returns c =
    let rows : c.from.result ≤ 1024 = omega arith in
    let places : c.from-2.result ≤ 1024 = omega arith in
    (search rules, mul-le-mul rows places)
