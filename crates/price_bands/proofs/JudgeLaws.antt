-- What the tests of one band say. Assumes nothing.
use mathlib.Core.Path.{◌≡◌}
use mathlib.Core.Bool.{true}
use mathlib.Core.Logic.{◌↔◌}
use Prim.Native.Nat.{ℕ}
use lib.Dec.{leb, eqb}
use Rattle.ground.proofs.Tests.{eqb-says, leb-says, and-says}
use Rattle.price_bands.specs.declared.Band.{Band}
use Rattle.price_bands.specs.Bands.{top, highest_rate, In, Good, is_good, holds}

pub holds-says : (b : Band) (amount : ℕ) → (holds b amount ≡ true) ↔ In b amount
holds-says b amount =
    let test = and-says (leb b.first amount) _ (leb-says b.first amount) (leb-says amount b.last) in
    (λ e. record { from = (test.0 e).0; to = (test.0 e).1 }, λ i. test.1 (i.from, i.to))

pub good-says : (due : ℕ) (b : Band) → (is_good due b ≡ true) ↔ Good due b
good-says due b =
    let test =
    and-says (eqb b.first due) _ (eqb-says b.first due)
    (and-says (leb b.first b.last) _ (leb-says b.first b.last)
    (and-says (leb b.last top) _ (leb-says b.last top) (leb-says b.cents highest_rate))) in (
      λ e. let t = test.0 e in record { starts = t.0; ends = t.1.0; below_top = t.1.1.0; rate = t.1.1.1 },
      λ g. test.1 (g.starts, (g.ends, (g.below_top, g.rate))),
    )
