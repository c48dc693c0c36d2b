-- A pattern is a corner where it changes across each axis.
use Rattle.sweep_words.proofs.PointLaws.{corner-word}
use Rattle.sweep_words.proofs.corner_places.Goals as goal

pub returns : goal.returns
returns c b = let given = c.args in
    let x = c.across-x in
    let y = c.across-y in
    let z = c.along-z in
    corner-word given.l0 given.l1 given.u0 given.u1 x.result y.result z.result b (x.ensures b) (y.ensures b) (z.ensures b)
