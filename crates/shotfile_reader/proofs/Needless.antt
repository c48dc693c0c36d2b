-- The test of a record's fields says that one is needless exactly if one is, in numbers. Assumes nothing.
use mathlib.Core.Path.{◌≡◌, refl}
use mathlib.Core.Bool.{Bool, true, false, not, ◌&&◌, true≢false}
use mathlib.Core.List.{List}
use mathlib.Core.Logic.{◌↔◌}
use Prim.Native.Nat.{ℕ, ◌+◌, ◌/◌, ◌%◌, ◌<◌}
use native.Mathlib.Omega.{arith}
use lib.Dec.{eqb}
use lib.ListN.{get_or}
use Rattle.ground.proofs.Tests.{eqb-says, not-says, and-says}
use Rattle.shotfile_records.specs.declared.Fields.{Fields}
use Rattle.shotfile_records.specs.Records.{field_number, second_at, third_at, needless, tight}
use Rattle.shotfile_reader.specs.Conditions.{Needless, in_first, in_second, in_third}

-- a field is needless: its bit stands, and it says what its absence means
abbrev Says : List ℕ → ℕ → ℕ → ℕ → Type 0
Says s at b absent = (¬ (b ≡ 0)) × (field_number s at ≡ absent)

needless-says : (s : List ℕ) (at b absent : ℕ) → (needless s at b absent ≡ true) ↔ Says s at b absent
unfolding needless
needless-says s at b absent = and-says (not (eqb b 0)) (eqb (field_number s at) absent) (not-says (eqb b 0) (eqb-says b 0)) (eqb-says (field_number s at) absent)

-- a record with no bit but the three
module _ (s : List ℕ) (at : ℕ) (absent : Fields) (known : get_or s at 0 < 8) where
  abbrev m : ℕ
  m = get_or s at 0

  abbrev first : Bool
  first = needless s (at + 1) (m % 2) absent.first

  abbrev second : Bool
  second = needless s (second_at m at) (m / 2 % 2) absent.second

  abbrev third : Bool
  third = needless s (third_at m at) (m / 4) absent.third

  first_says : (first ≡ true) ↔ Says s (at + 1) (m % 2) absent.first
  first_says = needless-says s (at + 1) (m % 2) absent.first

  second-says : (second ≡ true) ↔ Says s (second_at m at) (m / 2 % 2) absent.second
  second-says = needless-says s (second_at m at) (m / 2 % 2) absent.second

  third-says : (third ≡ true) ↔ Says s (third_at m at) (m / 4) absent.third
  third-says = needless-says s (third_at m at) (m / 4) absent.third

  pub loose-needless : tight s at absent ≡ false → Needless s at absent
  unfolding tight
  loose-needless e = go first refl second refl third refl e
    where
      go : (a : Bool) → first ≡ a → (b : Bool) → second ≡ b → (c : Bool) → third ≡ c → (not a && (not b && not c)) ≡ false → Needless s at absent
      go true p b q c r e = let (there, same) = first_says.0 p in in_first (omega (arith, there)) same
      go false p true q c r e = let (there, same) = second-says.0 q in in_second (omega (arith, there)) same
      go false p false q true r e = let (there, same) = third-says.0 r in in_third (omega (arith, there, known)) same
      go false p false q false r e = absurd (true≢false e)

  pub tight-needless : tight s at absent ≡ true → ¬ Needless s at absent
  unfolding tight
  tight-needless e = go
    where
      none : (¬ Says s (at + 1) (m % 2) absent.first) × ((¬ Says s (second_at m at) (m / 2 % 2) absent.second) × (¬ Says s (third_at m at) (m / 4) absent.third))
      none = (and-says (not first) (not second && not third) (not-says first first_says) (and-says (not second) (not third) (not-says second second-says) (not-says third third-says))).0 e

      go : ¬ Needless s at absent
      go (in_first b w) = none.0 (λ z. omega (arith, b, z), w)
      go (in_second b w) = none.1.0 (λ z. omega (arith, b, z), w)
      go (in_third b w) = none.1.1 (λ z. omega (arith, b, z), w)
