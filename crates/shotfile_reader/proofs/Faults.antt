-- The records of a file one after another, whole or faulty, up to the first faulty one. Assumes nothing.
use mathlib.Core.Path.{◌≡◌, refl, sym, ap, subst, ◌∙◌}
use mathlib.Core.Bool.{Bool, true, false, cond}
use mathlib.Core.List.{List, []}
use Prim.Native.Nat.{ℕ, zero, suc, ◌+◌, ◌≤◌, ◌<◌}
use native.Mathlib.Decide.{dec_le}
use native.Mathlib.Omega.{arith}
use lib.Dec.{ltb, leb, eqb}
use lib.ListN.{length, get_or, get_or-eq_default}
use borrow.Author.Tests.{ltb-true, ltb-false, leb-true, leb-false}
use Rattle.refusals.specs.declared.Refusal.{Refusal}
use Rattle.refusals.specs.declared.Refusal.TheVariants.{TooManyShots, NoPlace, UnknownBit, CutShort, NeedlessField}
use Rattle.job.specs.Job.{Job}
use Rattle.refusals.specs.Refusals.{number_of}
use Rattle.shotfile_records.specs.declared.Fields.{Fields}
use Rattle.shotfile_reader.specs.Files.{Taken}
use Rattle.shotfile_records.specs.declared.Record.{Record}
use Rattle.std.specs.Prelude.{None, Ok, Err}
use Rattle.shotfile_records.specs.Records.{header_absent, first_absent, fields_at, tight, record_at}
use Rattle.shotfile_reader.specs.declared.Cursor.{Cursor}
use Rattle.shotfile_reader.specs.Files.{step_of, step_at, Rest, coordinates, faulty, with_shot, on_step, shots_from, File, file, refused, with_settings, first_shot, on_header, file_in}
use Rattle.shotfile_reader.specs.Conditions.{end_of, IsRecord, header, shot_first, next_shot, Fault, too_many_shots, no_place, unknown_bit, cut_short, needless_field, FirstFault, Faultless}
use Rattle.shotfile_records.proofs.Parts.{Parts, parts}
use Rattle.shotfile_reader.proofs.Needless.{loose-needless, tight-needless}

-- ---- the places of the records
module _ {s : List ℕ} where
  -- a record has one place
  same_place : {n at place : ℕ} {absent p : Fields} → IsRecord s n at absent → IsRecord s n place p → place ≡ at
  same_place header header = refl
  same_place (shot_first h) (shot_first k) = refl
  same_place (next_shot r h) (next_shot q k) = ap (end_of s) (same_place r q)

  -- and its absent fields mean one thing
  same-absent : {n at place : ℕ} {absent p : Fields} → IsRecord s n at absent → IsRecord s n place p → p ≡ absent
  same-absent header header = refl
  same-absent (shot_first h) (shot_first k) = refl
  same-absent (next_shot r h) (next_shot q k) = rw (same_place r q, same-absent r q)

  -- no record comes after one that ends with the file
  last-record : {n at m place : ℕ} {absent p : Fields} → IsRecord s n at absent → length s ≤ end_of s at → IsRecord s m place p → m ≤ n
  last-record r e header = omega arith
  last-record {n} {at} {absent = absent} r e (shot_first h) = after n r
    where
      after : (n : ℕ) → IsRecord s n at absent → 1 ≤ n
      after zero r = absurd (omega (arith, h, e, ap (end_of s) (same_place header r)))
      after (suc n) r = omega arith
  last-record {n} {at} r e (next_shot {n = m} {at = place} {absent = p} q h) = after (dec_le (suc (suc m)) n) (last-record r e q)
    where
      after : Dec (suc (suc m) ≤ n) → suc m ≤ n → suc (suc m) ≤ n
      after (yes l) k = l
      after (no l) k =
          let same : suc m ≡ n = omega arith in
          absurd (omega (arith, h, e, ap (end_of s) (same_place (subst (λ (i : ℕ). IsRecord s i place p) same q) r)))

-- ---- one record
module _ (places : ℕ) (s : List ℕ) (n at : ℕ) (absent : Fields) where
  -- no fault has a number below k, where the conditions of those that could have one do not hold
  pub none_below : (k : ℕ) → (2 < k → n ≤ 4096) → (3 < k → n ≤ places) → (4 < k → get_or s at 0 < 8) → (5 < k → end_of s at ≤ length s) → k ≤ 17
      → (q : Refusal) → number_of q < k → ¬ Fault places s n at absent q
  none_below k few placed known whole last q l f = go l f
    where
      go : {q : Refusal} → number_of q < k → Fault places s n at absent q → ⊥
      go l (too_many_shots h) = omega (arith, few l)
      go l (no_place h) = omega (arith, placed l)
      go l (unknown_bit h) = omega (arith, known l)
      go l (cut_short h) = omega (arith, whole l)
      go l (needless_field h) = omega arith

  -- a fault of a record, and none with a lower number
  record Broken (r : Refusal) : Type 0 where
    pub holds : Fault places s n at absent r
    pub none_before : (q : Refusal) → number_of q < number_of r → ¬ Fault places s n at absent q

  broken-many : 4096 < n → Broken (TooManyShots at)
  broken-many h = record { holds = too_many_shots h; none_before = none_below 2 (λ l. omega arith) (λ l. omega arith) (λ l. omega arith) (λ l. omega arith) (omega arith) }

  broken-full : n ≤ 4096 → places < n → Broken (NoPlace at)
  broken-full few h = record { holds = no_place h; none_before = none_below 3 (λ l. few) (λ l. omega arith) (λ l. omega arith) (λ l. omega arith) (omega arith) }

module _ (places : ℕ) (s : List ℕ) (n at : ℕ) (absent : Fields) (few : n ≤ 4096) (placed : n ≤ places) where
  -- a whole record has no fault
  whole-faultless : {taken : Record} → record_at s at absent ≡ Ok taken → (q : Refusal) → ¬ Fault places s n at absent q
  whole-faultless {taken} e q h = go h
    where
      p : Parts s at absent taken.fields taken.end
      p = parts s at absent e

      go : {q : Refusal} → Fault places s n at absent q → ⊥
      go (too_many_shots h) = omega arith
      go (no_place h) = omega arith
      go (unknown_bit h) = omega (arith, p.known)
      go (cut_short h) = omega (arith, p.end_is, p.room)
      go (needless_field h) = tight-needless s at absent p.known p.is-tight h

  broken-bit : 8 ≤ get_or s at 0 → Broken places s n at absent (UnknownBit at)
  broken-bit h = record { holds = unknown_bit h; none_before = none_below places s n at absent 4 (λ l. few) (λ l. placed) (λ l. omega arith) (λ l. omega arith) (omega arith) }

  module _ (m : get_or s at 0 < 8) where
    broken-off : length s < end_of s at → Broken places s n at absent (CutShort at)
    broken-off h = record { holds = cut_short h; none_before = none_below places s n at absent 5 (λ l. few) (λ l. placed) (λ l. m) (λ l. omega arith) (omega arith) }

    broken-loose : end_of s at ≤ length s → tight s at absent ≡ false → Broken places s n at absent (NeedlessField at)
    broken-loose e t = record { holds = needless_field (loose-needless s at absent m t); none_before = none_below places s n at absent 17 (λ l. few) (λ l. placed) (λ l. m) (λ l. e) (omega arith) }

  refused-broken : {r : Refusal} → record_at s at absent ≡ Err r → Broken places s n at absent r
  unfolding record_at
  refused-broken {r} e = go (ltb at (length s)) refl (ltb (get_or s at 0) 8) refl (leb (end_of s at) (length s)) refl (tight s at absent) refl e
    where
      go : (a : Bool) → ltb at (length s) ≡ a → (b : Bool) → ltb (get_or s at 0) 8 ≡ b → (c : Bool) → leb (end_of s at) (length s) ≡ c → (d : Bool) → tight s at absent ≡ d
          → cond {A = Taken} a (cond b (cond c (cond d (Ok (record { fields = fields_at s (get_or s at 0) at absent; end = end_of s at })) (Err (NeedlessField at))) (Err (CutShort at))) (Err (UnknownBit at))) (Err (CutShort at)) ≡ Err r
          → Broken places s n at absent r
      go false p b q c k d t e =
          let none : get_or s at 0 ≡ 0 = get_or-eq_default s 0 (ltb-false at (length s) p) in
          subst (Broken places s n at absent) (let z : CutShort at ≡ r = cc in z) (broken-off (omega (arith, none)) (omega (arith, none, ltb-false at (length s) p)))
      go true p false q c k d t e = subst (Broken places s n at absent) (let z : UnknownBit at ≡ r = cc in z) (broken-bit (ltb-false (get_or s at 0) 8 q))
      go true p true q false k d t e = subst (Broken places s n at absent) (let z : CutShort at ≡ r = cc in z) (broken-off (ltb-true (get_or s at 0) 8 q) (leb-false (end_of s at) (length s) k))
      go true p true q true k false t e = subst (Broken places s n at absent) (let z : NeedlessField at ≡ r = cc in z) (broken-loose (ltb-true (get_or s at 0) 8 q) (leb-true (end_of s at) (length s) k) t)
      go true p true q true k true t e = let z : ◌≡◌ {A = ℕ} 0 1 = cc in absurd (omega arith)

-- ---- the records up to a cursor
module _ (places : ℕ) (s : List ℕ) where
  -- the records up to record k have no fault
  abbrev Sound : ℕ → Type 0
  Sound k = (m place : ℕ) (p : Fields) → m ≤ k → IsRecord s m place p → (q : Refusal) → ¬ Fault places s m place p q

  sound_more : (k at : ℕ) (absent : Fields) → Sound k → IsRecord s (suc k) at absent → ((q : Refusal) → ¬ Fault places s (suc k) at absent q) → Sound (suc k)
  sound_more k at absent sound r here m place p l q = go (dec_le m k)
    where
      go : Dec (m ≤ k) → (f : Refusal) → ¬ Fault places s m place p f
      go (yes h) = sound m place p h q
      go (no h) =
          let same : m ≡ suc k = omega arith in
          let q' : IsRecord s (suc k) place p = subst (λ (i : ℕ). IsRecord s i place p) same q in
          subst (λ (i : ℕ). (f : Refusal) → ¬ Fault places s i place p f) (sym same) (rw (same_place r q', same-absent r q') here)

  -- the cursor is at the end of record k, where the next record begins, if there is one
  record Reached (k : ℕ) (c : Cursor) : Type 0 where
    pub at : ℕ
    pub absent : Fields
    pub is : IsRecord s k at absent
    pub place : c.at ≡ end_of s at
    pub next : c.at < length s → IsRecord s (suc k) c.at c.last

  reached-first : {taken : Record} → record_at s 0 header_absent ≡ Ok taken → Reached 0 (first_shot taken.end)
  reached-first {taken} e =
      let p = parts s 0 header_absent e in
      record {
        at = 0;
        absent = header_absent;
        is = header;
        place = p.end_is;
        next = λ h. subst (λ (i : ℕ). IsRecord s 1 i first_absent) (sym p.end_is) (shot_first (omega (arith, h, p.end_is)));
      }

  reached-more : {k : ℕ} {c : Cursor} → Reached k c → c.at < length s → {taken : Record} → record_at s c.at c.last ≡ Ok taken → Reached (suc k) (record { at = taken.end; last = taken.fields })
  reached-more {k} {c} r l {taken} e =
      let p = parts s c.at c.last e in
      record {
        at = c.at;
        absent = c.last;
        is = r.next l;
        place = p.end_is;
        next = λ h. subst (λ (i : ℕ). IsRecord s (suc (suc k)) i taken.fields) (sym p.end_is) (subst (IsRecord s (suc (suc k)) (end_of s c.at)) (sym p.is) (next_shot (r.next l) (omega (arith, h, p.end_is))));
      }

  all_sound : {k : ℕ} {c : Cursor} → Reached k c → Sound k → length s ≤ c.at → Faultless places s
  all_sound {k} r sound h n at absent q = sound n at absent (last-record r.is (omega (arith, h, r.place)) q) q

  first-broken : {k : ℕ} {c : Cursor} → Reached k c → Sound k → c.at < length s → {r : Refusal} → Broken places s (suc k) c.at c.last r → FirstFault places s r
  first-broken {k} {c} r sound l b =
      record {
        n = suc k;
        at = c.at;
        absent = c.last;
        is_record = r.next l;
        holds = b.holds;
        none_before = b.none_before;
        earlier_records = λ m place p h q. sound m place p (omega arith) q;
      }

  -- what the shots from a cursor on come to, after k shots
  data RestOutcome (rest : Rest) : Type 0 where
    fine : {coords : List ℕ} → rest ≡ coordinates coords → Faultless places s → RestOutcome rest
    fails : {r : Refusal} → rest ≡ faulty r → FirstFault places s r → RestOutcome rest

  with-shot : (f : Fields) (rest : Rest) → RestOutcome rest → RestOutcome (with_shot f rest)
  with-shot f rest (fine e h) = fine (ap (with_shot f) e) h
  with-shot f rest (fails e h) = fails (ap (with_shot f) e) h

  -- at the end, or a refusal for one shot more
  last-outcome : {k : ℕ} {c : Cursor} → Reached k c → Sound k → (r : Refusal) → Broken places s (suc k) c.at c.last r → RestOutcome (cond (ltb c.at (length s)) (faulty r) (coordinates []))
  last-outcome {k} {c} reached sound r b = go (ltb c.at (length s)) refl
    where
      go : (t : Bool) → ltb c.at (length s) ≡ t → RestOutcome (cond t (faulty r) (coordinates []))
      go true l = fails refl (first-broken reached sound (ltb-true c.at (length s) l) b)
      go false l = fine refl (all_sound reached sound (ltb-false c.at (length s) l))

  rest-outcome : (left free k : ℕ) (c : Cursor) → k + left ≡ 4096 → k + free ≡ places → Reached k c → Sound k → RestOutcome (shots_from left free s c)
  unfolding shots_from step_at
  rest-outcome zero free k c l f reached sound = last-outcome reached sound (TooManyShots c.at) (broken-many places s (suc k) c.at c.last (omega arith))
  rest-outcome (suc left) zero k c l f reached sound = last-outcome reached sound (NoPlace c.at) (broken-full places s (suc k) c.at c.last (omega arith) (omega arith))
  rest-outcome (suc left) (suc free) k c l f reached sound =
      go (ltb c.at (length s)) refl (record_at s c.at c.last) refl (λ c'. rest-outcome left free (suc k) c' (omega arith) (omega arith))
    where
      go : (b : Bool) → ltb c.at (length s) ≡ b → (t : Taken) → record_at s c.at c.last ≡ t
          → ((c' : Cursor) → Reached (suc k) c' → Sound (suc k) → RestOutcome (shots_from left free s c'))
          → RestOutcome (on_step (cond b (step_of t) (Ok None)) (shots_from left free s))
      go false h t e later = fine refl (all_sound reached sound (ltb-false c.at (length s) h))
      go true h (Err r) e later =
          let i = ltb-true c.at (length s) h in
          fails refl (first-broken reached sound i (refused-broken places s (suc k) c.at c.last (omega arith) (omega arith) e))
      go true h (Ok taken) e later =
          let i = ltb-true c.at (length s) h in
          let c' : Cursor = record { at = taken.end; last = taken.fields } in
          with-shot taken.fields (shots_from left free s c')
          (later c' (reached-more reached i e) (sound_more k c.at c.last sound (reached.next i) (whole-faultless places s (suc k) c.at c.last (omega arith) (omega arith) e)))

  -- what a file comes to
  pub data Outcome (k : File) : Type 0 where
    accepted : {job : Job} → k ≡ file job → Faultless places s → Outcome k
    turned_down : {r : Refusal} → k ≡ refused r → FirstFault places s r → Outcome k

  with-settings : (f : Fields) (rest : Rest) → RestOutcome rest → Outcome (with_settings f rest)
  with-settings f rest (fine e h) = accepted (ap (with_settings f) e) h
  with-settings f rest (fails e h) = turned_down (ap (with_settings f) e) h

  pub outcome : Outcome (file_in places s)
  unfolding file_in
  outcome = go (record_at s 0 header_absent) refl
    where
      none-earlier : (m place : ℕ) (p : Fields) → m < 0 → IsRecord s m place p → (q : Refusal) → ¬ Fault places s m place p q
      none-earlier m place p l q = absurd (omega arith)

      go : (t : Taken) → record_at s 0 header_absent ≡ t → Outcome (on_header t (λ end. shots_from 4096 places s (first_shot end)))
      go (Err r) e =
          let b = refused-broken places s 0 0 header_absent (omega arith) (omega arith) e in
          turned_down refl (record { n = 0; at = 0; absent = header_absent; is_record = header; holds = b.holds; none_before = b.none_before; earlier_records = none-earlier })
      go (Ok taken) e =
          with-settings taken.fields (shots_from 4096 places s (first_shot taken.end))
          (rest-outcome 4096 places 0 (first_shot taken.end) (omega arith) (omega arith) (reached-first e) sound)
        where
          sound : Sound 0
          sound zero place p l q = rw (same_place header q, same-absent header q) (whole-faultless places s 0 0 header_absent (omega arith) (omega arith) e)
          sound (suc m) place p l q = absurd (omega arith)

-- ---- the first fault is one
-- the refusal of a reader with this number at a place
abbrev refusal_by_number : ℕ → ℕ → Refusal
refusal_by_number n at = cond (eqb n 2) (TooManyShots at) (cond (eqb n 3) (NoPlace at) (cond (eqb n 4) (UnknownBit at) (cond (eqb n 5) (CutShort at) (NeedlessField at))))

fault-number : {places : ℕ} {s : List ℕ} {n at : ℕ} {absent : Fields} {r : Refusal} → Fault places s n at absent r → r ≡ refusal_by_number (number_of r) at
fault-number (too_many_shots h) = refl
fault-number (no_place h) = refl
fault-number (unknown_bit h) = refl
fault-number (cut_short h) = refl
fault-number (needless_field h) = refl

-- two faults of a record with the same number are the same refusal
same-fault : {places : ℕ} {s : List ℕ} {n at : ℕ} {absent : Fields} {q r : Refusal} → Fault places s n at absent q → Fault places s n at absent r → number_of q ≡ number_of r → q ≡ r
same-fault {at = at} f g e = fault-number f ∙ (ap (λ (k : ℕ). refusal_by_number k at) e ∙ sym (fault-number g))

pub first-fault-one : {places : ℕ} {s : List ℕ} {q r : Refusal} → FirstFault places s q → FirstFault places s r → q ≡ r
first-fault-one {places} {s} {q} {r} a b = go (dec_le a.n b.n) (dec_le b.n a.n)
  where
    go : Dec (a.n ≤ b.n) → Dec (b.n ≤ a.n) → q ≡ r
    go (no h) k = absurd (a.earlier_records b.n b.at b.absent (omega arith) b.is_record r b.holds)
    go (yes h) (no k) = absurd (b.earlier_records a.n a.at a.absent (omega arith) a.is_record q a.holds)
    go (yes h) (yes k) = by_number (dec_le (number_of q) (number_of r)) (dec_le (number_of r) (number_of q))
      where
        record_same : a.n ≡ b.n
        record_same = omega arith

        b-record : IsRecord s a.n b.at b.absent
        b-record = subst (λ (i : ℕ). IsRecord s i b.at b.absent) (sym record_same) b.is_record

        place_same : b.at ≡ a.at
        place_same = same_place a.is_record b-record

        absent-same : b.absent ≡ a.absent
        absent-same = same-absent a.is_record b-record

        b-holds : Fault places s a.n a.at a.absent r
        b-holds = rw (record_same, ← place_same, ← absent-same) b.holds

        a-holds : Fault places s b.n b.at b.absent q
        a-holds = rw (← record_same, place_same, absent-same) a.holds

        by_number : Dec (number_of q ≤ number_of r) → Dec (number_of r ≤ number_of q) → q ≡ r
        by_number (no i) j = absurd (a.none_before r (omega arith) b-holds)
        by_number (yes i) (no j) = absurd (b.none_before q (omega arith) a-holds)
        by_number (yes i) (yes j) = same-fault a.holds b-holds (omega arith)
