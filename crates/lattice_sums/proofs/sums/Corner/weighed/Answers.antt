-- No weight is above 4.
use native.Mathlib.Omega.{arith}
use lib.IntN.{pos, ◌*ℤ◌}
use mathlib.Core.Path.{◌≡◌}
use mir.Syntax.{w64}
use mir.Val.{to_z, of_z}
use Rattle.std.proofs.lemmas.Grind.{common_steps}
use Rattle.lattice.specs.Pattern.{of_byte}
use Rattle.lattice_tables.specs.Tables.{weight_of}
use Rattle.lattice_sums.proofs.CornerSumLaws.{weighed-small}
use Rattle.lattice_sums.proofs.sums.Corner.weighed.Goals as goal

pub returns-clause-bound : goal.returns-clause-bound
returns-clause-bound c =
    let e : to_z w64 (of_z w64 (to_z w64 c.args.n *ℤ to_z w64 (of_z w64 c.from.result))) ≡ pos c.args.n *ℤ weight_of c.args.which (of_byte c.args.self.pattern) = grind (arith, common_steps) in
    weighed-small c.args.n c.args.which (of_byte c.args.self.pattern) e
