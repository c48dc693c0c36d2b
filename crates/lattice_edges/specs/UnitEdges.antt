-- The four cells about each of the six unit edges at a lattice point.
use Rattle.std.specs.Prelude.{Bool, true, false}
use Rattle.lattice.specs.Pattern.{Pattern}
use Rattle.lattice_edges.specs.declared.UnitEdge.{UnitEdge}
use Rattle.lattice_edges.specs.declared.UnitEdge.TheVariants.{BelowX, AboveX, BelowY, AboveY, BelowZ, AboveZ}

abbrev pub four_about : UnitEdge → Pattern → Bool → Bool → Bool
four_about BelowX p b c = p false b c
four_about AboveX p b c = p true b c
four_about BelowY p a c = p a false c
four_about AboveY p a c = p a true c
four_about BelowZ p a b = p a b false
four_about AboveZ p a b = p a b true
