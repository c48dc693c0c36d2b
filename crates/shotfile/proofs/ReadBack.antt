-- Reading the shortest form gives the numbers that it was made of: field by field, record by record, and the whole file. Assumes nothing.
use mathlib.Core.Path.{◌≡◌, refl, sym, ap, ◌∙◌}
use mathlib.Core.Bool.{Bool, true, false}
use mathlib.Core.List.{List, [], ◌∷◌, ◌++◌, append_assoc}
use Prim.Native.Nat.{ℕ, zero, suc, ◌+◌, ◌*◌, ◌/◌, ◌%◌, ◌≤◌, ◌<◌}
use native.Mathlib.Omega.{arith}
use lib.Dec.{eqb}
use lib.ListN.{length, get_or, length-append}
use lib.Seq.{get_or-append_seam, get_or-append-add}
use borrow.Author.Tests.{eqb-true, eqb-false}
use Rattle.lattice.specs.Shots.{Shot}
use Rattle.job.specs.Job.{Job, shots, shots_of, shot_count, place_of}
use Rattle.job.proofs.Shots.{shots-count}
use Rattle.shotfile_records.specs.declared.Fields.{Fields}
use Rattle.std.specs.Prelude.{Ok, Some}
use Rattle.shotfile_records.specs.Records.{header_absent, first_absent, field_at, record_at, bit_of, field_of, map_of, record_of}
use Rattle.shotfile_records.specs.Numbers.{setting_fields, shot_fields, shot_numbers}
use Rattle.shotfile_reader.specs.Files.{Taken, step_at, coordinates, with_shot, on_step, shots_from, file, with_settings, first_shot, on_header, file_in}
use Rattle.shotfile_writer.specs.Files.{shot_records, file_of}
use Rattle.shotfile_records.proofs.Taking.{told, told-bit, field-absent, field-there, taken-whole}
use Rattle.shotfile_reader.proofs.Coords.{shots-more, all_numbers, all-numbers}
use Rattle.shotfile_reader.proofs.Steps.{step-on, shots-end, shots-on}
use Rattle.shotfile_records.proofs.Putting.{bit-absent, bit-there, field-some, field-size, map_first, map-second, map-third, map-small, record-size, record-bits}

-- a record that was taken
abbrev whole : Fields → ℕ → Taken
whole f end = Ok (record { fields = f; end = end })

-- the numbers are of 16 bits
pub record SmallFields (f : Fields) : Type 0 where
  pub first_small : f.first < 65536
  pub second-small : f.second < 65536
  pub third-small : f.third < 65536

abbrev pub SmallShots : List Shot → Type 0
SmallShots [] = Unit {0}
SmallShots (t ∷ ts) = SmallFields (shot_fields t) × SmallShots ts

pub small-more : (e : ℕ) (f : Fields) (coords : List ℕ) → SmallShots (shots_of e (shot_numbers f ++ coords)) → SmallFields f × SmallShots (shots_of e coords)
small-more e f coords h = rw (shots-more e f coords) at h

-- a field
field-read : (pre post : List ℕ) (absent v : ℕ) → v < 65536 → v ≡ field_at (pre ++ (field_of absent v ++ post)) (length pre) (bit_of absent v) absent
field-read pre post absent v h = go (eqb v absent) refl
  where
    go : (b : Bool) → eqb v absent ≡ b → v ≡ field_at (pre ++ (field_of absent v ++ post)) (length pre) (bit_of absent v) absent
    go true e = eqb-true v absent e ∙ field-absent (pre ++ (field_of absent v ++ post)) (length pre) (bit_of absent v) absent (sym (bit-absent absent v (eqb-true v absent e)))
    go false e = value ∙ field-there (pre ++ (field_of absent v ++ post)) (length pre) (bit_of absent v) absent (λ z. omega (arith, bit-there absent v n))
      where
        n : v ≡ absent → ⊥
        n = eqb-false v absent e

        all : pre ++ (field_of absent v ++ post) ≡ pre ++ (v % 256 ∷ v / 256 ∷ post)
        all = rw (field-some absent v n)

        low : get_or (pre ++ (field_of absent v ++ post)) (length pre) 0 ≡ v % 256
        low = rw all (get_or-append_seam pre (v % 256) (v / 256 ∷ post) 0)

        high : get_or (pre ++ (field_of absent v ++ post)) (length pre + 1) 0 ≡ v / 256
        high = rw all (get_or-append-add pre (v % 256 ∷ v / 256 ∷ post) 1 0)

        value : v ≡ get_or (pre ++ (field_of absent v ++ post)) (length pre) 0 + 256 * get_or (pre ++ (field_of absent v ++ post)) (length pre + 1) 0
        value = omega (arith, low, high)

field-at : {s : List ℕ} {at : ℕ} (pre post : List ℕ) (absent v : ℕ) → s ≡ pre ++ (field_of absent v ++ post) → at ≡ length pre → v < 65536 → v ≡ field_at s at (bit_of absent v) absent
field-at {s} {at} pre post absent v e q h =
    field-read pre post absent v h
    ∙ (ap (λ (l : List ℕ). field_at l (length pre) (bit_of absent v) absent) (sym e) ∙ ap (λ (k : ℕ). field_at s k (bit_of absent v) absent) (sym q))

-- a record that stands at a place: its map's bits, its room, and its fields
record Placed (s : List ℕ) (at : ℕ) (absent f : Fields) : Type 0 where
  pub inside : at < length s
  pub map_is : get_or s at 0 ≡ map_of absent f
  pub room : at + length (record_of absent f) ≤ length s
  pub first-at : f.first ≡ field_at s (at + 1) (bit_of absent.first f.first) absent.first
  pub second_is_at : f.second ≡ field_at s (at + 1 + 2 * bit_of absent.first f.first) (bit_of absent.second f.second) absent.second
  pub third_is_at : f.third ≡ field_at s (at + 1 + 2 * bit_of absent.first f.first + 2 * bit_of absent.second f.second) (bit_of absent.third f.third) absent.third

placed : (pre post : List ℕ) (absent f : Fields) → SmallFields f → Placed (pre ++ (record_of absent f ++ post)) (length pre) absent f
unfolding record_of
placed pre post absent f small = record {
  inside = omega (arith, record-bits absent f, whole);
  map_is = get_or-append_seam pre m ((f₁ ++ (f₂ ++ f₃)) ++ post) 0;
  room = omega (arith, whole);
  first-at = field-at (pre ++ (m ∷ [])) (f₂ ++ (f₃ ++ post)) absent.first f.first parts₁ place₁ small.first_small;
  second_is_at = field-at ((pre ++ (m ∷ [])) ++ f₁) (f₃ ++ post) absent.second f.second parts₂ place₂ small.second-small;
  third_is_at = field-at (((pre ++ (m ∷ [])) ++ f₁) ++ f₂) post absent.third f.third parts₃ place₃ small.third-small;
}
  where
    m : ℕ
    m = map_of absent f

    f₁ : List ℕ
    f₁ = field_of absent.first f.first

    f₂ : List ℕ
    f₂ = field_of absent.second f.second

    f₃ : List ℕ
    f₃ = field_of absent.third f.third

    s : List ℕ
    s = pre ++ (record_of absent f ++ post)

    whole : length s ≡ length pre + (length (record_of absent f) + length post)
    whole = length-append pre (record_of absent f ++ post) ∙ ap (λ (n : ℕ). length pre + n) (length-append (record_of absent f) post)

    parts₁ : s ≡ (pre ++ (m ∷ [])) ++ (f₁ ++ (f₂ ++ (f₃ ++ post)))
    parts₁ = simp append_assoc

    parts₂ : s ≡ ((pre ++ (m ∷ [])) ++ f₁) ++ (f₂ ++ (f₃ ++ post))
    parts₂ = simp append_assoc

    parts₃ : s ≡ (((pre ++ (m ∷ [])) ++ f₁) ++ f₂) ++ (f₃ ++ post)
    parts₃ = simp append_assoc

    place₁ : length pre + 1 ≡ length (pre ++ (m ∷ []))
    place₁ = sym (length-append pre (m ∷ []))

    place₂ : length pre + 1 + 2 * bit_of absent.first f.first ≡ length ((pre ++ (m ∷ [])) ++ f₁)
    place₂ = omega (arith, place₁, length-append (pre ++ (m ∷ [])) f₁, field-size absent.first f.first)

    place₃ : length pre + 1 + 2 * bit_of absent.first f.first + 2 * bit_of absent.second f.second ≡ length (((pre ++ (m ∷ [])) ++ f₁) ++ f₂)
    place₃ = omega (arith, place₂, length-append ((pre ++ (m ∷ [])) ++ f₁) f₂, field-size absent.second f.second)

module _ {s : List ℕ} {at : ℕ} {absent f : Fields} (p : Placed s at absent f) where
  -- the bits of its map
  placed_first : bit_of absent.first f.first ≡ told (get_or s at 0 % 2)
  placed_first = sym (told-bit (get_or s at 0 % 2) (omega arith) ∙ (ap (λ (k : ℕ). k % 2) p.map_is ∙ map_first absent f))

  placed-second : bit_of absent.second f.second ≡ told (get_or s at 0 / 2 % 2)
  placed-second = sym (told-bit (get_or s at 0 / 2 % 2) (omega arith) ∙ (ap (λ (k : ℕ). k / 2 % 2) p.map_is ∙ map-second absent f))

  placed-third : bit_of absent.third f.third ≡ told (get_or s at 0 / 4)
  placed-third = sym (told-bit (get_or s at 0 / 4) (omega (arith, p.map_is, map-small absent f)) ∙ (ap (λ (k : ℕ). k / 4) p.map_is ∙ map-third absent f))

  -- it is read as the numbers that it says
  placed-read : record_at s at absent ≡ whole f (at + length (record_of absent f))
  placed-read =
      sym (taken-whole s at absent p.inside (omega (arith, p.map_is, map-small absent f)) placed_first placed-second placed-third (omega (arith, p.room, record-bits absent f))
      (p.first-at ∙ ap (λ (b : ℕ). field_at s (at + 1) b absent.first) placed_first)
      (p.second_is_at ∙ ap (λ (b : ℕ). field_at s (at + 1 + 2 * bit_of absent.first f.first) b absent.second) placed-second)
      (p.third_is_at ∙ ap (λ (b : ℕ). field_at s (at + 1 + 2 * bit_of absent.first f.first + 2 * bit_of absent.second f.second) b absent.third) placed-third)
      p.map_is)
      ∙ ap (whole f) (omega (arith, record-bits absent f))

-- the shots of a file, after what stands before them
module _ (s : List ℕ) where
  at-shot : (pre rest : List ℕ) (p f : Fields) → s ≡ pre ++ (record_of p f ++ rest) → length pre < length s
  at-shot pre rest p f e = omega (arith, ap length e, length-append pre (record_of p f ++ rest), length-append (record_of p f) rest, record-size p f)

  -- a shot's record is one step
  one-step : (pre rest : List ℕ) (p f : Fields) → s ≡ pre ++ (record_of p f ++ rest) → SmallFields f
      → step_at s (record { at = length pre; last = p }) ≡ Ok (Some (record { at = length (pre ++ record_of p f); last = f }))
  one-step pre rest p f e small = sym (step-on s (record { at = length pre; last = p }) (at-shot pre rest p f e) (whole f (length (pre ++ record_of p f))) (sym taken))
    where
      taken : record_at s (length pre) p ≡ whole f (length (pre ++ record_of p f))
      taken = ap (λ (l : List ℕ). record_at l (length pre) p) e ∙ (placed-read (placed pre rest p f small) ∙ ap (whole f) (sym (length-append pre (record_of p f))))

  one-shot : (left places : ℕ) (pre rest : List ℕ) (p f : Fields) → s ≡ pre ++ (record_of p f ++ rest) → SmallFields f
      → shots_from (suc left) (suc places) s (record { at = length pre; last = p }) ≡ with_shot f (shots_from left places s (record { at = length (pre ++ record_of p f); last = f }))
  one-shot left places pre rest p f e small =
      shots-on s (record { at = length pre; last = p }) left places
      ∙ ap (λ t. on_step t (shots_from left places s)) (one-step pre rest p f e small)

  shots-read : (left places : ℕ) (pre : List ℕ) (p : Fields) (ts : List Shot)
      → s ≡ pre ++ shot_records p ts
      → length ts ≤ left
      → length ts ≤ places
      → SmallShots ts
      → shots_from left places s (record { at = length pre; last = p }) ≡ coordinates (all_numbers ts)
  unfolding shot_records
  shots-read left places pre p [] e l r small = shots-end s (record { at = length pre; last = p }) left places (omega (arith, ap length e, length-append pre []))
  shots-read zero places pre p (t ∷ ts) e l r small = absurd (omega arith)
  shots-read (suc left) zero pre p (t ∷ ts) e l r small = absurd (omega arith)
  shots-read (suc left) (suc places) pre p (t ∷ ts) e l r small =
      let f : Fields = shot_fields t in
      one-shot left places pre (shot_records f ts) p f e small.0
      ∙ ap (with_shot f)
      (shots-read left places (pre ++ record_of p f) f ts (e ∙ sym (append_assoc pre (record_of p f) (shot_records f ts))) (omega arith) (omega arith) small.1)

-- the whole file
pub file-read : (job : Job) (places : ℕ) → SmallFields (setting_fields job) → SmallShots (shots job)
    → length job.coords ≡ place_of (shot_count job.coords) → shot_count job.coords ≤ 4096 → shot_count job.coords ≤ places
    → file_in places (file_of job) ≡ file job
unfolding file_in file_of
file-read job places header-small small t l r = ap (λ t. on_header t (λ end. shots_from 4096 places s (first_shot end))) header ∙ ap (with_settings f) rest
  where
    f : Fields
    f = setting_fields job

    s : List ℕ
    s = file_of job

    header : record_at s 0 header_absent ≡ whole f (length (record_of header_absent f))
    header = placed-read (placed [] (shot_records first_absent (shots job)) header_absent f header-small) ∙ ap (whole f) (omega arith)

    rest : shots_from 4096 places s (first_shot (length (record_of header_absent f))) ≡ coordinates job.coords
    rest =
        shots-read s 4096 places (record_of header_absent f) first_absent (shots job) refl (omega (arith, shots-count job.edge job.coords)) (omega (arith, shots-count job.edge job.coords)) small
        ∙ ap coordinates (all-numbers job.edge job.coords t)
