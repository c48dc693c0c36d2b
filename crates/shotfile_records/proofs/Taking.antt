-- The ways to take one record. Assumes nothing.
use mathlib.Core.Path.{◌≡◌, refl}
use mathlib.Core.Bool.{cond}
use Rattle.std.specs.Int.{from_bool}
use mathlib.Core.List.{List}
use Prim.Native.Nat.{ℕ, zero, suc, ◌+◌, ◌*◌, ◌/◌, ◌%◌, ◌≤◌, ◌<◌}
use native.Mathlib.Omega.{arith}
use lib.Dec.{eqb}
use lib.ListN.{length, get_or}
use borrow.Author.Tests.{le-ltb, lt-ltb, le-leb, lt-leb, eq-eqb, ne_eqb}
use Rattle.std.specs.Prelude.{Ok, Err}
use Rattle.refusals.specs.declared.Refusal.TheVariants.{UnknownBit, CutShort, NeedlessField}
use Rattle.shotfile_records.specs.declared.Fields.{Fields}
use Rattle.shotfile_records.specs.declared.Record.{Record}
use Rattle.shotfile_records.specs.Records.{field_number, field_at, end_at, fields_at, record_at, map_of}
use Rattle.shotfile_records.proofs.ShortestMap.{record-tight}

-- a bit of the map, as a number again
abbrev pub told : ℕ → ℕ
told b = from_bool (eqb b 1)

pub told-bit : (b : ℕ) → b < 2 → told b ≡ b
told-bit zero h = refl
told-bit (suc zero) h = refl
told-bit (suc (suc b)) h = absurd (omega arith)

module _ (s : List ℕ) (at b absent : ℕ) where
  pub field-absent : b ≡ 0 → absent ≡ field_at s at b absent
  unfolding field_at
  field-absent e = simp (eq-eqb b 0 e)

  pub field-there : (b ≡ 0 → ⊥) → field_number s at ≡ field_at s at b absent
  unfolding field_at
  field-there h = simp (ne_eqb b 0 h)

module _ (s : List ℕ) (at : ℕ) (absent : Fields) where
  pub no-map : length s ≤ at → Err (CutShort at) ≡ record_at s at absent
  unfolding record_at
  no-map h = simp (le-ltb at (length s) h)

  module _ (h : at < length s) where
    pub unknown_bit : 8 ≤ get_or s at 0 → Err (UnknownBit at) ≡ record_at s at absent
    unfolding record_at
    unknown_bit m = simp (lt-ltb at (length s) h, le-ltb (get_or s at 0) 8 m)

    module _ (m : get_or s at 0 < 8)
        {b₁ b₂ b₃ : ℕ}
        (e₁ : b₁ ≡ told (get_or s at 0 % 2))
        (e₂ : b₂ ≡ told (get_or s at 0 / 2 % 2))
        (e₃ : b₃ ≡ told (get_or s at 0 / 4)) where
      t₁ : told (get_or s at 0 % 2) ≡ get_or s at 0 % 2
      t₁ = told-bit (get_or s at 0 % 2) (omega arith)

      t₂ : told (get_or s at 0 / 2 % 2) ≡ get_or s at 0 / 2 % 2
      t₂ = told-bit (get_or s at 0 / 2 % 2) (omega arith)

      t₃ : told (get_or s at 0 / 4) ≡ get_or s at 0 / 4
      t₃ = told-bit (get_or s at 0 / 4) (omega (arith, m))

      pub cut_short : length s < at + 1 + 2 * b₁ + 2 * b₂ + 2 * b₃ → Err (CutShort at) ≡ record_at s at absent
      unfolding record_at
      cut_short l = simp (lt-ltb at (length s) h, lt-ltb (get_or s at 0) 8 m, lt-leb (end_at (get_or s at 0) at) (length s) (omega (arith, l, e₁, e₂, e₃, t₁, t₂, t₃)))

      -- the record's fields stand in the file
      module _ (l : at + 1 + 2 * b₁ + 2 * b₂ + 2 * b₃ ≤ length s) {x y z : ℕ}
          (hx : x ≡ field_at s (at + 1) (told (get_or s at 0 % 2)) absent.first)
          (hy : y ≡ field_at s (at + 1 + 2 * b₁) (told (get_or s at 0 / 2 % 2)) absent.second)
          (hz : z ≡ field_at s (at + 1 + 2 * b₁ + 2 * b₂) (told (get_or s at 0 / 4)) absent.third) where
        abbrev taken : Fields
        taken = record { first = x; second = y; third = z }

        abbrev whole : Record
        whole = record { fields = taken; end = at + 1 + 2 * b₁ + 2 * b₂ + 2 * b₃ }

        taken-are : fields_at s (get_or s at 0) at absent ≡ taken
        unfolding fields_at
        taken-are = simp (hx, hy, hz, e₁, e₂, t₁, t₂, t₃)

        by_map : cond (eqb (get_or s at 0) (map_of absent taken)) (Ok whole) (Err (NeedlessField at)) ≡ record_at s at absent
        unfolding record_at
        by_map =
            simp (
              lt-ltb at (length s) h,
              lt-ltb (get_or s at 0) 8 m,
              le-leb (end_at (get_or s at 0) at) (length s) (omega (arith, l, e₁, e₂, e₃, t₁, t₂, t₃)),
              record-tight s at absent m,
              taken-are,
              e₁,
              e₂,
              e₃,
              t₁,
              t₂,
              t₃,
            )

        pub needless_field : (get_or s at 0 ≡ map_of absent taken → ⊥) → Err (NeedlessField at) ≡ record_at s at absent
        needless_field n = rw (← by_map, ne_eqb (get_or s at 0) (map_of absent taken) n)

        pub taken-whole : get_or s at 0 ≡ map_of absent taken → Ok whole ≡ record_at s at absent
        taken-whole e = rw (← by_map, eq-eqb (get_or s at 0) (map_of absent taken) e)
