-- A whole record that was taken, in its parts. Assumes nothing.
use mathlib.Core.Path.{◌≡◌, refl, sym, ap, ◌∙◌}
use mathlib.Core.Bool.{Bool, true, false, cond}
use mathlib.Core.List.{List}
use Prim.Native.Nat.{ℕ, ◌≤◌, ◌<◌}
use native.Mathlib.Omega.{arith}
use lib.Dec.{ltb, leb, eqb}
use lib.ListN.{length, get_or}
use borrow.Author.Tests.{ltb-true, leb-true, eqb-true}
use Rattle.refusals.specs.declared.Refusal.{Refusal}
use Rattle.refusals.specs.declared.Refusal.TheVariants.{UnknownBit, CutShort, NeedlessField}
use Rattle.shotfile_records.specs.declared.Fields.{Fields}
use Rattle.std.specs.Prelude.{Result, Ok, Err}
use Rattle.shotfile_records.specs.declared.Record.{Record}
use Rattle.shotfile_records.specs.Records.{end_at, fields_at, tight, record_at, map_of}
use Rattle.shotfile_records.proofs.ShortestMap.{record-tight}

pub record Parts (s : List ℕ) (at : ℕ) (absent f : Fields) (end : ℕ) : Type 0 where
  pub inside : at < length s
  pub known : get_or s at 0 < 8
  pub end_is : end ≡ end_at (get_or s at 0) at
  pub room : end ≤ length s
  pub is-tight : tight s at absent ≡ true
  pub is : f ≡ fields_at s (get_or s at 0) at absent

pub parts : (s : List ℕ) (at : ℕ) (absent : Fields) {taken : Record} → record_at s at absent ≡ Ok taken → Parts s at absent taken.fields taken.end
unfolding record_at
parts s at absent {taken} e = go (ltb at (length s)) refl (ltb (get_or s at 0) 8) refl (leb (end_at (get_or s at 0) at) (length s)) refl (tight s at absent) refl e
  where
    apart : {P : Type 0} {r : Refusal} → ◌≡◌ {A = Result Record Refusal} (Err r) (Ok taken) → P
    apart e = let z : ◌≡◌ {A = ℕ} 0 1 = cc in absurd (omega arith)

    go : (a : Bool) → ltb at (length s) ≡ a → (b : Bool) → ltb (get_or s at 0) 8 ≡ b → (c : Bool) → leb (end_at (get_or s at 0) at) (length s) ≡ c → (d : Bool) → tight s at absent ≡ d
        → cond a (cond b (cond c (cond d (Ok (record { fields = fields_at s (get_or s at 0) at absent; end = end_at (get_or s at 0) at })) (Err (NeedlessField at))) (Err (CutShort at))) (Err (UnknownBit at))) (Err (CutShort at)) ≡ Ok taken
        → Parts s at absent taken.fields taken.end
    go false p b q c r d t e = apart e
    go true p false q c r d t e = apart e
    go true p true q false r d t e = apart e
    go true p true q true r false t e = apart e
    go true p true q true r true t e =
        let same : ◌≡◌ {A = Record} (record { fields = fields_at s (get_or s at 0) at absent; end = end_at (get_or s at 0) at }) taken = cc in
        let k : end_at (get_or s at 0) at ≡ taken.end = ap (λ (r : Record). r.end) same in
        let j : fields_at s (get_or s at 0) at absent ≡ taken.fields = ap (λ (r : Record). r.fields) same in
        record {
          inside = ltb-true at (length s) p;
          known = ltb-true (get_or s at 0) 8 q;
          end_is = sym k;
          room = omega (arith, k, leb-true (end_at (get_or s at 0) at) (length s) r);
          is-tight = t;
          is = sym j;
        }

-- its map is that of the shortest record of its numbers
pub parts-map : {s : List ℕ} {at : ℕ} {absent f : Fields} {end : ℕ} → Parts s at absent f end → get_or s at 0 ≡ map_of absent f
parts-map {s} {at} {absent} {f} p =
    let same : eqb (get_or s at 0) (map_of absent (fields_at s (get_or s at 0) at absent)) ≡ true = sym (record-tight s at absent p.known) ∙ p.is-tight in
    eqb-true (get_or s at 0) (map_of absent (fields_at s (get_or s at 0) at absent)) same ∙ ap (map_of absent) (sym p.is)
