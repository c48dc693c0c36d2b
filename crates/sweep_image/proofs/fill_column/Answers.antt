-- The words of the rectangle's rows are changed by the mask of the column.
use Prim.Native.Nat.{◌+◌, ◌*◌, ◌≤◌}
use native.Mathlib.Omega.{arith}
use Rattle.sweep_image.specs.Images.{rows}
use Rattle.sweep_image.specs.Changes.{masked}
use Rattle.sweep_image.proofs.ChangeLaws.{changed_alike}
use Rattle.sweep_image.proofs.ColumnLaws.{mask-bits, column-filled, column-beside}
use Rattle.sweep_image.proofs.fill_column.Goals as goal

pub returns : goal.returns
returns c = let mask = c.interval-v in
    let given = c.args in
    let rect = given.r in
    let inside = c.requires.rect_in.0 in
    let high : rect.high ≤ 1024 = omega (arith, inside.y_in) in
    let changed = changed_alike (masked given.fill mask.result) {c = given.k * rows + (rect.low + 1)} {d = given.k * rows + (rect.high + 1)}
    given.u.now _ (omega arith) (omega arith) (omega arith) (omega arith) c.fill_rows.ensures in
    record {
      column_filled = column-filled given.r given.k high changed given.fill
          (λ j. mask-bits given.k rect.from rect.to mask.result (omega (arith, mask.type_inv)) (rw (c.from-3.ensures, c.from-4.ensures) at mask.ensures) given.fill);
      beside = column-beside given.r given.k high changed c.requires.rect_in.2 c.requires.rect_in.3;
    }
