-- The shortest record: its length, and how it is written field by field. Assumes nothing.
use mathlib.Core.Path.{◌≡◌, refl, ap}
use mathlib.Core.Bool.{Bool, true, false, not, cond}
use Rattle.std.specs.Int.{from_bool, w16, to_le_bytes}
use mathlib.Core.List.{List, [], ◌∷◌, ◌++◌}
use Prim.Native.Nat.{ℕ, ◌+◌, ◌-◌, ◌*◌, ◌/◌, ◌%◌, ◌≤◌, ◌<◌}
use native.Mathlib.Omega.{arith}
use lib.Dec.{eqb}
use lib.ListN.{length, take, set, length-append}
use borrow.Rule.Slice.PartMut.{put_mid, Post-is}
use borrow.Author.Tests.{eq-eqb, ne_eqb}
use Rattle.shotfile_records.specs.declared.Fields.{Fields}
use Rattle.shotfile_records.specs.Records.{bit_of, field_of, map_of, record_of}
use Rattle.buffer.specs.Wrote.{Wrote}
use Rattle.buffer.proofs.WroteLaws.{wrote_none, wrote_one, wrote-length, wrote_then}

-- ---- a field
module _ (absent v : ℕ) where
  pub bit-absent : v ≡ absent → 0 ≡ bit_of absent v
  unfolding bit_of
  bit-absent e = simp (eq-eqb v absent e)

  pub bit-there : (v ≡ absent → ⊥) → 1 ≡ bit_of absent v
  unfolding bit_of
  bit-there n = simp (ne_eqb v absent n)

  pub bit-told : from_bool (not (eqb v absent)) ≡ bit_of absent v
  unfolding bit_of
  bit-told = go (eqb v absent)
    where
      go : (b : Bool) → from_bool (not b) ≡ cond b 0 1
      go true = refl
      go false = refl

  pub bit-small : bit_of absent v ≤ 1
  unfolding bit_of
  bit-small = go (eqb v absent)
    where
      go : (b : Bool) → cond b 0 1 ≤ 1
      go true = omega arith
      go false = omega arith

  pub field-none : v ≡ absent → field_of absent v ≡ []
  unfolding field_of
  field-none e = simp (eq-eqb v absent e)

  pub field-some : (v ≡ absent → ⊥) → field_of absent v ≡ v % 256 ∷ v / 256 ∷ []
  unfolding field_of
  field-some n = simp (ne_eqb v absent n)

  -- two bytes where the bit stands
  pub field-size : length (field_of absent v) ≡ 2 * bit_of absent v
  unfolding field_of bit_of
  field-size = go (eqb v absent)
    where
      go : (b : Bool) → length (cond b [] (v % 256 ∷ v / 256 ∷ [])) ≡ 2 * cond b 0 1
      go true = refl
      go false = refl

  pub field_most : length (field_of absent v) ≤ 2
  field_most = omega (arith, field-size, bit-small)

-- ---- a record
module _ (absent f : Fields) where
  bits₁ : bit_of absent.first f.first ≤ 1
  bits₁ = bit-small absent.first f.first

  bits₂ : bit_of absent.second f.second ≤ 1
  bits₂ = bit-small absent.second f.second

  bits₃ : bit_of absent.third f.third ≤ 1
  bits₃ = bit-small absent.third f.third

  -- the three bits of a map
  pub map_first : map_of absent f % 2 ≡ bit_of absent.first f.first
  map_first = omega (arith, bits₁, bits₂, bits₃)

  pub map-second : map_of absent f / 2 % 2 ≡ bit_of absent.second f.second
  map-second = omega (arith, bits₁, bits₂, bits₃)

  pub map-third : map_of absent f / 4 ≡ bit_of absent.third f.third
  map-third = omega (arith, bits₁, bits₂, bits₃)

  pub map-small : map_of absent f < 8
  map-small = omega (arith, bits₁, bits₂, bits₃)

  pub record-size : length (record_of absent f) ≡ 1 + length (field_of absent.first f.first) + length (field_of absent.second f.second) + length (field_of absent.third f.third)
  unfolding record_of
  record-size =
      omega (
        arith,
        length-append (field_of absent.first f.first) (field_of absent.second f.second ++ field_of absent.third f.third),
        length-append (field_of absent.second f.second) (field_of absent.third f.third),
      )

  -- a byte, and two for each bit that stands
  pub record-bits : length (record_of absent f) ≡ 1 + 2 * bit_of absent.first f.first + 2 * bit_of absent.second f.second + 2 * bit_of absent.third f.third
  record-bits = omega (arith, record-size, field-size absent.first f.first, field-size absent.second f.second, field-size absent.third f.third)

  pub record-most : length (record_of absent f) ≤ 7
  record-most = omega (arith, record-bits, bits₁, bits₂, bits₃)

-- ---- writing
module _ (w : List ℕ) (at : ℕ) where
  pub put-absent : (absent v : ℕ) → v ≡ absent → at + length (field_of absent v) ≤ length w → Wrote w w at at (field_of absent v)
  put-absent absent v e h = rw (field-none absent v e) (wrote_none w at (omega arith))

  pub put-there : (absent v : ℕ) → (v ≡ absent → ⊥) → v < 65536 → at + length (field_of absent v) ≤ length w → Wrote w (put_mid at (at + 2 - at) w (to_le_bytes w16 v)) at (at + 2) (field_of absent v)
  put-there absent v n small h =
      let high : v / 256 % 256 ≡ v / 256 = omega arith in
      rw (field-some absent v n, high)
      (record {
        next = refl;
        room = omega (arith, ap length (field-some absent v n));
        is = ap (λ (l : List ℕ). take at w ++ ((v % 256 ∷ v / 256 ∷ []) ++ l)) (Post-is at (at + 2) w (omega arith));
      })

module _ (absent f : Fields) where
  pub put_map : (w : List ℕ) (at : ℕ) {m : ℕ} → at < length w → m ≡ map_of absent f → Wrote w (set w at m) at (at + 1) (map_of absent f ∷ [])
  put_map w at h e = rw (← e) (wrote_one w at _ h)

  pub room-map : (w : List ℕ) (at : ℕ) → at + length (record_of absent f) ≤ length w → at < length w
  room-map w at room = omega (arith, record-size absent f)

  module _ {w : List ℕ} (at : ℕ) (room : at + length (record_of absent f) ≤ length w) where
    -- the map and the three fields, one after the other, each with its room
    module _ {w₁ : List ℕ} {r₁ : ℕ} (m : Wrote w w₁ at r₁ (map_of absent f ∷ [])) where
      pub room-first : r₁ + length (field_of absent.first f.first) ≤ length w₁
      room-first = omega (arith, record-size absent f, m.next, wrote-length m)

      module _ {w₂ : List ℕ} {r₂ : ℕ} (a : Wrote w₁ w₂ r₁ r₂ (field_of absent.first f.first)) where
        pub room-second : r₂ + length (field_of absent.second f.second) ≤ length w₂
        room-second = omega (arith, record-size absent f, m.next, a.next, wrote-length m, wrote-length a)

        module _ {w₃ : List ℕ} {r₃ : ℕ} (b : Wrote w₂ w₃ r₂ r₃ (field_of absent.second f.second)) where
          pub room-third : r₃ + length (field_of absent.third f.third) ≤ length w₃
          room-third = omega (arith, record-size absent f, m.next, a.next, b.next, wrote-length m, wrote-length a, wrote-length b)

          pub put_all : {w₄ : List ℕ} {r₄ : ℕ} → Wrote w₃ w₄ r₃ r₄ (field_of absent.third f.third) → Wrote w w₄ at r₄ (record_of absent f)
          unfolding record_of
          put_all c = wrote_then m (wrote_then a (wrote_then b c))
