-- The column is named in the rectangle's rows.
use native.Mathlib.Omega.{arith}
use Rattle.sweep_names.proofs.NameLaws.{column-tells}
use Rattle.sweep_names.proofs.name_column.Goals as goal

pub returns : goal.returns
returns c = let given = c.args in
    let inside = c.requires.rect_in.0 in
    let column = c.bit in
    column-tells given.r given.k given.l.now given.u.now column.result column.ensures inside
    (omega (arith, inside.z_in)) (rw (c.from-a.ensures, c.from-b.ensures) at c.name_rows.ensures) c.requires.lent_but.tells
