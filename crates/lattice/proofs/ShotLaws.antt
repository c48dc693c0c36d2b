-- Shots that stay in the field cover cells within it.
use mathlib.Core.Bool.{◌&&◌}
use mathlib.Core.List.{List, [], ◌∷◌}
use Prim.Native.Nat.{ℕ, ◌+◌, ◌<◌}
use native.Mathlib.Omega.{arith}
use lib.Dec.{T, leb, ltb, ltb→lt}
use Rattle.ground.proofs.Bools.{and-elim, or_elim}
use Rattle.lattice.specs.Cells.{Within}
use Rattle.lattice.specs.Shots.{Shot, spans, covers, cells, any, InField, AllInField}

span-end : (e a i : ℕ) → T (spans e a i) → i < a + e
span-end e a i t = ltb→lt i (a + e) (and-elim (leb a i) (ltb i (a + e)) t).1

shot-within : (n : ℕ) (t : Shot) → InField n t → Within n (covers t)
shot-within n t h i j k c =
    let cx = and-elim (spans t.edge t.x i) (spans t.edge t.y j && spans t.edge t.z k) c in
    let cy = and-elim (spans t.edge t.y j) (spans t.edge t.z k) cx.1 in
    let hx = span-end t.edge t.x i cx.0 in
    let hy = span-end t.edge t.y j cy.0 in
    let hz = span-end t.edge t.z k cy.1 in
    (omega (arith, h.x_in), omega (arith, h.y_in), omega (arith, h.z_in))

pub cells-within : (n : ℕ) (ts : List Shot) → AllInField n ts → Within n (cells ts)
unfolding any
cells-within n [] h i j k c = absurd c
cells-within n (t ∷ ts) h i j k c = or_elim (covers t i j k) (cells ts i j k) c (shot-within n t h.0 i j k) (cells-within n ts h.1 i j k)
