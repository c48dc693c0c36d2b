-- A field is the number at its place or what its absence means. Assumes nothing.
use mathlib.Core.Path.{◌≡◌, ap, ◌∙◌}
use native.Mathlib.Omega.{arith}
use Rattle.std.specs.Int.{from_bool}
use Rattle.shotfile_records.specs.Records.{field_number}
use Rattle.shotfile_records.proofs.Taking.{field-absent, field-there}
use Rattle.shotfile_records.proofs.field.Goals as goal

pub returns-then-not-stands : goal.returns-then-not-stands
returns-then-not-stands c = field-absent _ _ _ _ (ap from_bool c.if-not-stands.true)

pub returns : goal.returns
returns c =
    let read : c.from_le_bytes.result ≡ field_number c.args.bytes.now c.args.at = omega (arith, c.from_le_bytes.ensures) in
    read ∙ field-there _ _ _ _ (λ z. omega (arith, z, ap from_bool c.if-not-stands.false))
