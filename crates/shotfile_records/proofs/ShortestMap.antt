-- No field of a record is needless exactly if its map is that of the shortest record of its numbers. Assumes nothing.
use mathlib.Core.Path.{◌≡◌, refl, sym, ◌∙◌, ap₂}
use mathlib.Core.Bool.{Bool, true, false, not, cond, ◌&&◌}
use mathlib.Core.List.{List}
use Prim.Native.Nat.{ℕ, zero, suc, ◌+◌, ◌*◌, ◌/◌, ◌%◌, ◌≤◌, ◌<◌}
use native.Mathlib.Omega.{arith}
use lib.Dec.{eqb}
use lib.ListN.{get_or}
use borrow.Author.Tests.{eqb-true, eqb-false, eq-eqb, ne_eqb}
use Rattle.shotfile_records.specs.declared.Fields.{Fields}
use Rattle.shotfile_records.specs.Records.{field_number, field_at, second_at, third_at, fields_at, needless, tight, bit_of, map_of}
use Rattle.shotfile_records.proofs.Putting.{bit-small}

-- a field is not needless exactly if its bit is that of the shortest record
field-tight : (s : List ℕ) (at b absent : ℕ) → b ≤ 1 → not (needless s at b absent) ≡ eqb b (bit_of absent (field_at s at b absent))
unfolding needless field_at bit_of
field-tight s at zero absent h = rw (eq-eqb absent absent refl)
field-tight s at (suc zero) absent h = go (eqb (field_number s at) absent)
  where
    go : (t : Bool) → not t ≡ eqb 1 (cond t 0 1)
    go true = refl
    go false = refl
field-tight s at (suc (suc b)) absent h = absurd (omega arith)

-- three bits are the same one by one exactly if the numbers that they make are the same
bits-same : (m a b c : ℕ) → m < 8 → a ≤ 1 → b ≤ 1 → c ≤ 1
    → (eqb (m % 2) a && (eqb (m / 2 % 2) b && eqb (m / 4) c)) ≡ eqb m (a + 2 * b + 4 * c)
bits-same m a b c small ha hb hc = go (eqb (m % 2) a) refl (eqb (m / 2 % 2) b) refl (eqb (m / 4) c) refl
  where
    go : (t : Bool) → eqb (m % 2) a ≡ t → (u : Bool) → eqb (m / 2 % 2) b ≡ u → (v : Bool) → eqb (m / 4) c ≡ v → (t && (u && v)) ≡ eqb m (a + 2 * b + 4 * c)
    go false p u q v r = sym (ne_eqb m (a + 2 * b + 4 * c) (λ e. eqb-false (m % 2) a p (omega arith)))
    go true p false q v r = sym (ne_eqb m (a + 2 * b + 4 * c) (λ e. eqb-false (m / 2 % 2) b q (omega arith)))
    go true p true q false r = sym (ne_eqb m (a + 2 * b + 4 * c) (λ e. eqb-false (m / 4) c r (omega arith)))
    go true p true q true r = sym (eq-eqb m (a + 2 * b + 4 * c) (omega (arith, eqb-true (m % 2) a p, eqb-true (m / 2 % 2) b q, eqb-true (m / 4) c r)))

pub record-tight : (s : List ℕ) (at : ℕ) (absent : Fields) → get_or s at 0 < 8 → tight s at absent ≡ eqb (get_or s at 0) (map_of absent (fields_at s (get_or s at 0) at absent))
unfolding tight fields_at
record-tight s at absent small =
    ap₂ ◌&&◌ (field-tight s (at + 1) (m % 2) absent.first (omega arith))
    (ap₂ ◌&&◌ (field-tight s (second_at m at) (m / 2 % 2) absent.second (omega arith)) (field-tight s (third_at m at) (m / 4) absent.third (omega (arith, small))))
    ∙ bits-same m (bit_of absent.first v₁) (bit_of absent.second v₂) (bit_of absent.third v₃) small (bit-small absent.first v₁) (bit-small absent.second v₂) (bit-small absent.third v₃)
  where
    m : ℕ
    m = get_or s at 0

    v₁ : ℕ
    v₁ = field_at s (at + 1) (m % 2) absent.first

    v₂ : ℕ
    v₂ = field_at s (second_at m at) (m / 2 % 2) absent.second

    v₃ : ℕ
    v₃ = field_at s (third_at m at) (m / 4) absent.third
