-- Two digits of a word.
use native.Mathlib.Omega.{arith}
use Rattle.sweep_words.proofs.PointLaws.{two_digits}
use Rattle.sweep_words.proofs.two.Goals as goal

pub returns : goal.returns
returns c = (two_digits c.args.w c.args.b, omega arith)
