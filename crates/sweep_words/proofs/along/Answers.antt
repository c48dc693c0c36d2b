-- Bit by bit.
use Rattle.sweep_words.proofs.PointLaws.{along-word}
use Rattle.sweep_words.proofs.along.Goals as goal

pub returns : goal.returns
returns c i = let p = c.turns in
    let q = c.turns-2 in
    let r = c.turns-3 in
    let s = c.turns-4 in
    along-word p.result q.result r.result s.result i (p.ensures i) (q.ensures i) (r.ensures i) (s.ensures i)
