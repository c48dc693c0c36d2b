-- When `read` refuses, in words of numbers: docs/SCOPE.md, 'When a job is refused', 2 to 5 and 17.
use Rattle.std.specs.Prelude.{◌≡◌, List, ℕ, suc, ◌+◌, ◌/◌, ◌%◌, ◌≤◌, ◌<◌, length, get_or}
use Rattle.refusals.specs.declared.Refusal.{Refusal}
use Rattle.refusals.specs.declared.Refusal.TheVariants.{TooManyShots, NoPlace, UnknownBit, CutShort, NeedlessField}
use Rattle.refusals.specs.Refusals.{number_of}
use Rattle.shotfile_records.specs.declared.Fields.{Fields}
use Rattle.shotfile_records.specs.Records.{header_absent, first_absent, field_number, second_at, third_at, end_at, fields_at}

-- the place after the record whose map is at a place
abbrev pub end_of : List ℕ → ℕ → ℕ
end_of s at = end_at (get_or s at 0) at

-- record n of a file has its map at a place, and its absent fields mean these numbers. Record 0 is the header; record n + 1 is shot n, from
-- 0, and begins where record n ends, if a byte is left there
pub data IsRecord (s : List ℕ) : ℕ → ℕ → Fields → Type 0 where
  header : IsRecord s 0 0 header_absent
  shot_first : end_of s 0 < length s → IsRecord s 1 (end_of s 0) first_absent
  next_shot : {n at : ℕ} {absent : Fields}
      → IsRecord s (suc n) at absent
      → end_of s at < length s
      → IsRecord s (suc (suc n)) (end_of s at) (fields_at s (get_or s at 0) at absent)

-- a field of the record whose map is at a place stands, and says what its absence means
pub data Needless (s : List ℕ) (at : ℕ) (absent : Fields) : Type 0 where
  in_first : get_or s at 0 % 2 ≡ 1 → field_number s (at + 1) ≡ absent.first → Needless s at absent
  in_second : get_or s at 0 / 2 % 2 ≡ 1 → field_number s (second_at (get_or s at 0) at) ≡ absent.second → Needless s at absent
  in_third : get_or s at 0 / 4 % 2 ≡ 1 → field_number s (third_at (get_or s at 0) at) ≡ absent.third → Needless s at absent

-- the condition of each refusal at record n with its map at a place, whose absent fields mean these numbers, where the coordinate slice has
-- places for so many shots. The header meets neither 2 nor 3. A file that has no header map ends before the end of record 0
pub data Fault (places : ℕ) (s : List ℕ) (n at : ℕ) (absent : Fields) : Refusal → Type 0 where
  too_many_shots : 4096 < n → Fault places s n at absent (TooManyShots at)
  no_place : places < n → Fault places s n at absent (NoPlace at)
  unknown_bit : 8 ≤ get_or s at 0 → Fault places s n at absent (UnknownBit at)
  cut_short : length s < end_of s at → Fault places s n at absent (CutShort at)
  needless_field : Needless s at absent → Fault places s n at absent (NeedlessField at)

-- the condition of this refusal holds at the first faulty record, and that of none with a lower number does
pub record FirstFault (places : ℕ) (s : List ℕ) (r : Refusal) : Type 0 where
  pub n : ℕ
  pub at : ℕ
  pub absent : Fields
  pub is_record : IsRecord s n at absent
  pub holds : Fault places s n at absent r
  pub none_before : (q : Refusal) → number_of q < number_of r → ¬ Fault places s n at absent q
  pub earlier_records : (m place : ℕ) (p : Fields) → m < n → IsRecord s m place p → (q : Refusal) → ¬ Fault places s m place p q

-- no record is faulty
abbrev pub Faultless : ℕ → List ℕ → Type 0
Faultless places s = (n at : ℕ) (absent : Fields) → IsRecord s n at absent → (q : Refusal) → ¬ Fault places s n at absent q
