-- The shots that a file has from a cursor on, one record after the other. Assumes nothing.
use mathlib.Core.Path.{◌≡◌, refl, sym, subst, ap, ap₂, ◌∙◌}
use mathlib.Core.Bool.{Bool, true, false, cond}
use mathlib.Core.List.{List, [], ◌++◌}
use Prim.Native.Nat.{ℕ, zero, suc, ◌≤◌, ◌<◌}
use native.Mathlib.Omega.{arith}
use lib.Dec.{ltb}
use lib.ListN.{length}
use borrow.Author.Tests.{ltb-true, ltb-false}
use Rattle.refusals.specs.declared.Refusal.{Refusal}
use Rattle.job.specs.Job.{shot_count, place_of}
use Rattle.shotfile_records.specs.declared.Fields.{Fields}
use Rattle.shotfile_reader.specs.Files.{Taken}
use Rattle.shotfile_records.specs.declared.Record.{Record}
use Rattle.std.specs.Prelude.{Ok, Err}
use Rattle.shotfile_reader.specs.declared.Cursor.{Cursor}
use Rattle.std.specs.Prelude.{Some, None}
use Rattle.shotfile_records.specs.Records.{record_at}
use Rattle.shotfile_records.specs.Numbers.{shot_numbers}
use Rattle.shotfile_reader.specs.Files.{step_of, step_at, Rest, coordinates, faulty, with_shot, on_step, shots_from, next_shots}
use Rattle.shotfile_reader.proofs.Coords.{count_none, count-more, places-more}
use Rattle.shotfile_reader.proofs.Steps.{step-on}

-- the records from a cursor on are whole and say the coordinates; their shots are no more than are allowed and than there are places for
pub data Reads (s : List ℕ) : ℕ → ℕ → Cursor → List ℕ → Type 0 where
  done : {left places : ℕ} {c : Cursor} → length s ≤ c.at → Reads s left places c []
  shot : {left places : ℕ} {c : Cursor} {f : Fields} {end : ℕ} {coords : List ℕ}
      → c.at < length s
      → record_at s c.at c.last ≡ Ok (record { fields = f; end = end })
      → Reads s left places (record { at = end; last = f }) coords
      → Reads s (suc left) (suc places) c (shot_numbers f ++ coords)

apart : {P : Type 0} {r : Refusal} {coords : List ℕ} → faulty r ≡ coordinates coords → P
apart e = let z : ◌≡◌ {A = ℕ} 0 1 = cc in absurd (omega arith)

module _ (s : List ℕ) where
  no-shots : (left places : ℕ) (c : Cursor) {coords : List ℕ} → length s ≤ c.at → coordinates [] ≡ coordinates coords → Reads s left places c coords
  no-shots left places c {coords} h e = subst (Reads s left places c) (let z : [] ≡ coords = cc in z) (done h)

  -- at the end, or a refusal for one shot more
  last-shots : (left places : ℕ) (c : Cursor) (r : Refusal) {coords : List ℕ} → cond (ltb c.at (length s)) (faulty r) (coordinates []) ≡ coordinates coords → Reads s left places c coords
  last-shots left places c r {coords} e = go (ltb c.at (length s)) refl e
    where
      go : (b : Bool) → ltb c.at (length s) ≡ b → cond b (faulty r) (coordinates []) ≡ coordinates coords → Reads s left places c coords
      go true l e = apart e
      go false l e = no-shots left places c (ltb-false c.at (length s) l) e

  then : (left places : ℕ) (c : Cursor) (f : Fields) (end : ℕ) (r : Rest) {coords : List ℕ}
      → c.at < length s
      → record_at s c.at c.last ≡ Ok (record { fields = f; end = end })
      → ((later : List ℕ) → r ≡ coordinates later → Reads s left places (record { at = end; last = f }) later)
      → with_shot f r ≡ coordinates coords
      → Reads s (suc left) (suc places) c coords
  then left places c f end (faulty r) l t k e = apart e
  then left places c f end (coordinates later) {coords} l t k e = subst (Reads s (suc left) (suc places) c) (let z : shot_numbers f ++ later ≡ coords = cc in z) (shot l t (k later refl))

  pub reads : (left places : ℕ) (c : Cursor) {coords : List ℕ} → shots_from left places s c ≡ coordinates coords → Reads s left places c coords
  unfolding shots_from step_at
  reads zero places c e = last-shots 0 places c _ e
  reads (suc left) zero c e = last-shots (suc left) 0 c _ e
  reads (suc left) (suc places) c {coords} e = go (ltb c.at (length s)) refl (record_at s c.at c.last) refl (λ c' later e'. reads left places c' e') e
    where
      go : (b : Bool) → ltb c.at (length s) ≡ b → (t : Taken) → record_at s c.at c.last ≡ t
          → ((c' : Cursor) (later : List ℕ) → shots_from left places s c' ≡ coordinates later → Reads s left places c' later)
          → on_step (cond b (step_of t) (Ok None)) (shots_from left places s) ≡ coordinates coords → Reads s (suc left) (suc places) c coords
      go false l t q k e = no-shots (suc left) (suc places) c (ltb-false c.at (length s) l) e
      go true l (Ok taken) q k e = then left places c taken.fields taken.end (shots_from left places s (record { at = taken.end; last = taken.fields })) (ltb-true c.at (length s) l) q (k (record { at = taken.end; last = taken.fields })) e
      go true l (Err r) q k e = apart e

-- ---- what follows for the coordinates
-- they are whole shots
pub reads_whole : {s : List ℕ} {left places : ℕ} {c : Cursor} {coords : List ℕ} → Reads s left places c coords → length coords ≡ place_of (shot_count coords)
reads_whole (done h) = refl
reads_whole (shot {f = f} {coords = coords} l t r) = places-more f coords (reads_whole r)

pub reads-room : {s : List ℕ} {left places : ℕ} {c : Cursor} {coords : List ℕ} → Reads s left places c coords → shot_count coords ≤ places
reads-room (done h) = omega (arith, count_none)
reads-room (shot {f = f} {coords = coords} l t r) = omega (arith, reads-room r, count-more f coords)

pub reads-few : {s : List ℕ} {left places : ℕ} {c : Cursor} {coords : List ℕ} → Reads s left places c coords → shot_count coords ≤ left
reads-few (done h) = omega (arith, count_none)
reads-few (shot {f = f} {coords = coords} l t r) = omega (arith, reads-few r, count-more f coords)

pub reads-next : {s : List ℕ} {left places : ℕ} {c : Cursor} {coords : List ℕ} → Reads s left places c coords → next_shots (shot_count coords) s c ≡ coords
unfolding next_shots
reads-next (done h) = refl
reads-next {s} {left} {places} {c} (shot {f = f} {end = end} {coords = coords} l t r) =
    let e : step_at s c ≡ Ok (Some (record { at = end; last = f })) = sym (step-on s c l (Ok (record { fields = f; end = end })) (sym t)) in
    rw (count-more f coords, e, reads-next r)

-- however many places there are, they are the same coordinates
pub reads_same : {s : List ℕ} {left places allowed room : ℕ} {c : Cursor} {coords others : List ℕ} → Reads s left places c coords → Reads s allowed room c others → coords ≡ others
reads_same (done h) (done k) = refl
reads_same (done h) (shot l t r) = absurd (omega arith)
reads_same (shot l t r) (done h) = absurd (omega arith)
reads_same {s} (shot {f = f} {end = end} l t r) (shot {left = allowed} {places = room} {f = g} {end = place} {coords = others} k q w) =
    let same : ◌≡◌ {A = Taken} (Ok (record { fields = f; end = end })) (Ok (record { fields = g; end = place })) = sym t ∙ q in
    let same-record : ◌≡◌ {A = Record} (record { fields = f; end = end }) (record { fields = g; end = place }) = cc in
    let same-fields : f ≡ g = ap (λ (k : Record). k.fields) same-record in
    let same_end : end ≡ place = ap (λ (k : Record). k.end) same-record in
    let w' : Reads s allowed room (record { at = end; last = f }) others = rw (same-fields, same_end) w in
    ap₂ (λ (h : Fields) (later : List ℕ). shot_numbers h ++ later) same-fields (reads_same r w')
