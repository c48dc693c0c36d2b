-- One record of a shot file: a map byte, then the 16-bit fields whose bits stand in it, least byte first. docs/SCOPE.md, 'Shot file'.
-- The header has the fields F, E, G, and each shot x, y, z: three numbers, in bits 0, 1, 2. What an absent field means is given with them.
use Rattle.std.specs.Prelude.{Bool, not, cond, ◌&&◌, List, [], ◌∷◌, ◌++◌, ℕ, ◌+◌, ◌*◌, ◌/◌, ◌%◌, ltb, leb, eqb, length, get_or, Result, Ok, Err}
use Rattle.refusals.specs.declared.Refusal.{Refusal}
use Rattle.refusals.specs.declared.Refusal.TheVariants.{UnknownBit, CutShort, NeedlessField}
use Rattle.shotfile_records.specs.declared.Fields.{Fields}
use Rattle.shotfile_records.specs.declared.Record.{Record}

-- what the header's absent fields mean: a field side of 1,024, a shot edge of 16, a grid size of 16
unfoldable pub header_absent : Fields
header_absent = record { first = 1024; second = 16; third = 16 }

-- an absent coordinate is the previous shot's, and 0 for the first shot
unfoldable pub first_absent : Fields
first_absent = record { first = 0; second = 0; third = 0 }

-- ---- reading
-- the 16-bit number at a place, least byte first
abbrev pub field_number : List ℕ → ℕ → ℕ
field_number s at = get_or s at 0 + 256 * get_or s (at + 1) 0

-- a field whose bit in the map is b: the number at its place where b stands, else what its absence means
unfoldable pub field_at : List ℕ → ℕ → ℕ → ℕ → ℕ
field_at s at b absent = cond (eqb b 0) absent (field_number s at)

-- the places of the second and third field and of the end, after the map m at a place
abbrev pub second_at : ℕ → ℕ → ℕ
second_at m at = at + 1 + 2 * (m % 2)

abbrev pub third_at : ℕ → ℕ → ℕ
third_at m at = second_at m at + 2 * (m / 2 % 2)

abbrev pub end_at : ℕ → ℕ → ℕ
end_at m at = third_at m at + 2 * (m / 4)

-- the numbers after the map m at a place
unfoldable pub fields_at : List ℕ → ℕ → ℕ → Fields → Fields
fields_at s m at absent =
    record {
      first = field_at s (at + 1) (m % 2) absent.first;
      second = field_at s (second_at m at) (m / 2 % 2) absent.second;
      third = field_at s (third_at m at) (m / 4) absent.third;
    }

-- a field that stands though it says what its absence would mean
unfoldable pub needless : List ℕ → ℕ → ℕ → ℕ → Bool
needless s at b absent = not (eqb b 0) && eqb (field_number s at) absent

-- no field of the record at a place is needless
unfoldable pub tight : List ℕ → ℕ → Fields → Bool
tight s at absent =
    not (needless s (at + 1) (get_or s at 0 % 2) absent.first)
    && (not (needless s (second_at (get_or s at 0) at) (get_or s at 0 / 2 % 2) absent.second)
    && not (needless s (third_at (get_or s at 0) at) (get_or s at 0 / 4) absent.third))

-- the record at a place: refusal 4 where another bit than the three stands, 5 where the file ends before its map or a field, 17 where a
-- field is needless
unfoldable pub record_at : List ℕ → ℕ → Fields → Result Record Refusal
record_at s at absent =
    cond (ltb at (length s))
    (cond (ltb (get_or s at 0) 8)
    (cond (leb (end_at (get_or s at 0) at) (length s))
    (cond (tight s at absent)
    (Ok (record { fields = fields_at s (get_or s at 0) at absent; end = end_at (get_or s at 0) at }))
    (Err (NeedlessField at)))
    (Err (CutShort at)))
    (Err (UnknownBit at)))
    (Err (CutShort at))

-- ---- writing
-- a number that is what its absence means is left out
unfoldable pub bit_of : ℕ → ℕ → ℕ
bit_of absent v = cond (eqb v absent) 0 1

unfoldable pub field_of : ℕ → ℕ → List ℕ
field_of absent v = cond (eqb v absent) [] (v % 256 ∷ v / 256 ∷ [])

abbrev pub map_of : Fields → Fields → ℕ
map_of absent f = bit_of absent.first f.first + 2 * bit_of absent.second f.second + 4 * bit_of absent.third f.third

-- the shortest record that says these numbers
unfoldable pub record_of : Fields → Fields → List ℕ
record_of absent f =
    map_of absent f ∷ (field_of absent.first f.first ++ (field_of absent.second f.second ++ field_of absent.third f.third))
