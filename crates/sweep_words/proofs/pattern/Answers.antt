-- Two cells of each word make the byte.
use native.Mathlib.Omega.{arith}
use Rattle.sweep_words.proofs.PointLaws.{byte-two}
use Rattle.sweep_words.proofs.pattern.Goals as goal

pub returns : goal.returns
returns c = let given = c.args in
    omega (arith, byte-two given.l0 given.l1 given.u0 given.u1 given.b)
