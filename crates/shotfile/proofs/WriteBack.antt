-- A record that is read is the shortest one that says the same, byte for byte. Assumes nothing.
use mathlib.Core.Path.{◌≡◌, refl, sym, ap, ap₂, ◌∙◌}
use mathlib.Core.Bool.{Bool, true, false}
use mathlib.Core.List.{List, ◌∷◌, ◌++◌, append_assoc}
use Prim.Native.Nat.{ℕ, suc, ◌+◌, ◌*◌, ◌/◌, ◌%◌, ◌≤◌, ◌<◌}
use native.Mathlib.Numerals.{add-one}
use native.Mathlib.Omega.{arith}
use lib.Dec.{eqb}
use lib.ListN.{length, get_or, drop}
use lib.Seq.{drop-cons}
use borrow.Author.Tests.{eqb-true, eqb-false}
use Rattle.ground.specs.Numbers.{Bytes}
use Rattle.shotfile_records.specs.declared.Fields.{Fields}
use Rattle.shotfile_records.specs.Records.{field_number, field_at, second_at, third_at, end_at, fields_at, bit_of, field_of, map_of, record_of}
use Rattle.shotfile_records.proofs.Parts.{Parts, parts-map}
use Rattle.shotfile_records.proofs.Taking.{field-absent, field-there}
use Rattle.shotfile_records.proofs.Putting.{bit-absent, bit-small, field-none, field-some, map_first, map-second, map-third}

-- a field whose bit is that of the shortest record
field-same : (s : List ℕ) (at b absent : ℕ) → Bytes s → at + 2 * b ≤ length s → b ≡ bit_of absent (field_at s at b absent)
    → drop at s ≡ field_of absent (field_at s at b absent) ++ drop (at + 2 * b) s
field-same s at b absent bytes room is = go (eqb b 0) refl
  where
    v : ℕ
    v = field_at s at b absent

    go : (t : Bool) → eqb b 0 ≡ t → drop at s ≡ field_of absent v ++ drop (at + 2 * b) s
    go true e =
        let k : at + 2 * b ≡ at = omega (arith, eqb-true b 0 e) in
        rw (field-none absent v (sym (field-absent s at b absent (eqb-true b 0 e))), k)
    go false e =
        let there : b ≡ 0 → ⊥ = eqb-false b 0 e in
        let one : at + 2 * b ≡ at + 2 = omega (arith, there, is, bit-small absent v) in
        let value : v ≡ field_number s at = sym (field-there s at b absent there) in
        let low : v % 256 ≡ get_or s at 0 = omega (arith, value, bytes at, bytes (at + 1)) in
        let high : v / 256 ≡ get_or s (at + 1) 0 = omega (arith, value, bytes at, bytes (at + 1)) in
        rw (one, field-some absent v (λ q. omega (arith, there, is, bit-absent absent v q)), low, high) two
      where
        two : drop at s ≡ get_or s at 0 ∷ get_or s (at + 1) 0 ∷ drop (at + 2) s
        two =
            let i₀ : at < length s = omega (arith, room, eqb-false b 0 e) in
            let i₁ : at + 1 < length s = omega (arith, room, eqb-false b 0 e) in
            let n₁ : suc at ≡ at + 1 = omega arith in
            let n₂ : suc (at + 1) ≡ at + 2 = omega arith in
            rw (drop-cons s at 0 i₀, n₁, drop-cons s (at + 1) 0 i₁, n₂)

regroup : (a b c d : List ℕ) → a ++ (b ++ (c ++ d)) ≡ (a ++ (b ++ c)) ++ d
regroup a b c d = simp append_assoc

pub record_same : (s : List ℕ) (at : ℕ) (absent f : Fields) (end : ℕ) → Parts s at absent f end → Bytes s → drop at s ≡ record_of absent f ++ drop end s
unfolding fields_at record_of
record_same s at absent f end p bytes =
    drop-cons s at 0 p.inside
    ∙ (rw (p.is, p.end_is)
    (ap₂ (λ (n : ℕ) (l : List ℕ). n ∷ l) map_is
    (rw (← add-one at)
    (first ∙ (ap (λ (l : List ℕ). f₁ ++ l) (second ∙ ap (λ (l : List ℕ). f₂ ++ l) third) ∙ regroup f₁ f₂ f₃ (drop (end_at m at) s))))))
  where
    m : ℕ
    m = get_or s at 0

    f₁ : List ℕ
    f₁ = field_of absent.first (field_at s (at + 1) (m % 2) absent.first)

    f₂ : List ℕ
    f₂ = field_of absent.second (field_at s (second_at m at) (m / 2 % 2) absent.second)

    f₃ : List ℕ
    f₃ = field_of absent.third (field_at s (third_at m at) (m / 4) absent.third)

    map_is : m ≡ map_of absent (fields_at s m at absent)
    map_is = parts-map p ∙ ap (map_of absent) p.is

    first : drop (at + 1) s ≡ f₁ ++ drop (second_at m at) s
    first = field-same s (at + 1) (m % 2) absent.first bytes (omega (arith, p.end_is, p.room)) (ap (λ (k : ℕ). k % 2) map_is ∙ map_first absent (fields_at s m at absent))

    second : drop (second_at m at) s ≡ f₂ ++ drop (third_at m at) s
    second = field-same s (second_at m at) (m / 2 % 2) absent.second bytes (omega (arith, p.end_is, p.room)) (ap (λ (k : ℕ). k / 2 % 2) map_is ∙ map-second absent (fields_at s m at absent))

    third : drop (third_at m at) s ≡ f₃ ++ drop (end_at m at) s
    third = field-same s (third_at m at) (m / 4) absent.third bytes (omega (arith, p.end_is, p.room)) (ap (λ (k : ℕ). k / 4) map_is ∙ map-third absent (fields_at s m at absent))
