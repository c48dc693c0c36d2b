-- Request (vii), from what the reader promises. Assumes nothing.
use mathlib.Core.Path.{◌≡◌, refl, sym, ◌∙◌, ap, subst}
use mathlib.Core.Bool.{Bool, true, false, true≢false, false≢true}
use mathlib.Core.List.{List}
use mathlib.Core.Logic.{◌↔◌}
use Prim.Native.Nat.{ℕ, ◌≤◌, ◌<◌}
use native.Mathlib.Omega.{arith}
use lib.ListN.{length, get_or}
use Rattle.ground.specs.Numbers.{Bytes}
use Rattle.refusals.specs.declared.Refusal.{Refusal}
use Rattle.refusals.specs.declared.Refusal.TheVariants.{TooManyShots, NoPlace, UnknownBit, CutShort, NeedlessField}
use Rattle.job.specs.Job.{Job, shot_count}
use Rattle.text_same.specs.Same.{same}
use Rattle.text_same.proofs.SameLaws.{same-iff}
use Rattle.shotfile_reader.specs.Files.{File, file, refused, file_in}
use Rattle.shotfile_reader.specs.Calls.{read_answer, ReadCall}
use Rattle.shotfile_reader.specs.Conditions.{end_of, Fault, too_many_shots, no_place, unknown_bit, cut_short, needless_field, FirstFault}
use Rattle.shotfile_reader.specs.Calls.{ReadAnswer}
use Rattle.shotfile_reader.proofs.Conditions.{read-accepts, read-refuses}
use Rattle.shotfile_reader.proofs.Faults.{none_below}
use Rattle.shotfile_reader.proofs.FileParts.{one_list}
use Rattle.shotfile.proofs.RoundTrip.{same_bytes}
use Rattle.acceptance.specs.ShortestFiles.{FirstNeedless, OnlyShortest, FilesCompared}
use Rattle.std.specs.Prelude.{is_ok}

-- ---- the reader
module _ (places : ℕ) (s : List ℕ) where
  -- 17 is the first fault of a record that meets no refusal with a lower number
  first-needless : (at : ℕ) → FirstFault places s (NeedlessField at) ↔ FirstNeedless places s at
  first-needless at = (to, from)
    where
      to : FirstFault places s (NeedlessField at) → FirstNeedless places s at
      to f = go f.holds refl
        where
          go : {q : Refusal} → Fault places s f.n f.at f.absent q → q ≡ NeedlessField at → FirstNeedless places s at
          go (too_many_shots h) e = let z : ◌≡◌ {A = ℕ} 0 1 = cc in absurd (omega arith)
          go (no_place h) e = let z : ◌≡◌ {A = ℕ} 0 1 = cc in absurd (omega arith)
          go (unknown_bit h) e = let z : ◌≡◌ {A = ℕ} 0 1 = cc in absurd (omega arith)
          go (cut_short h) e = let z : ◌≡◌ {A = ℕ} 0 1 = cc in absurd (omega arith)
          go (needless_field h) e =
              let here : f.at ≡ at = cc in
              let one-too-many : 4096 < f.n → ⊥ = λ l. f.none_before (TooManyShots f.at) (omega arith) (too_many_shots l) in
              let unplaced : places < f.n → ⊥ = λ l. f.none_before (NoPlace f.at) (omega arith) (no_place l) in
              let unknown : 8 ≤ get_or s f.at 0 → ⊥ = λ l. f.none_before (UnknownBit f.at) (omega arith) (unknown_bit l) in
              let cut : length s < end_of s f.at → ⊥ = λ l. f.none_before (CutShort f.at) (omega arith) (cut_short l) in
              subst (FirstNeedless places s) here
              (record {
                n = f.n;
                absent = f.absent;
                is_record = f.is_record;
                few = omega (arith, one-too-many);
                placed = omega (arith, unplaced);
                known = omega (arith, unknown);
                whole = omega (arith, cut);
                needless = h;
                earlier_records = f.earlier_records;
              })

      from : FirstNeedless places s at → FirstFault places s (NeedlessField at)
      from f = record {
        n = f.n;
        at = at;
        absent = f.absent;
        is_record = f.is_record;
        holds = needless_field f.needless;
        none_before = none_below places s f.n at f.absent 17 (λ l. f.few) (λ l. f.placed) (λ l. f.known) (λ l. f.whole) (omega arith);
        earlier_records = f.earlier_records;
      }

pub only-shortest : {bytes coords coords' : List ℕ} {r : ReadAnswer} → ReadCall bytes coords r coords' → OnlyShortest bytes coords r
only-shortest {bytes} {coords} call = record {
  accepted = λ e k at absent is h. (read-accepts call).0 (_, e) k at absent is (NeedlessField at) (needless_field h);
  refused = λ at. (
    λ e. (first-needless (shot_count coords) bytes at).0 ((read-refuses call (NeedlessField at)).0 e),
    λ f. (read-refuses call (NeedlessField at)).1 ((first-needless (shot_count coords) bytes at).1 f),
  );
}

-- ---- two shops
-- a file was read, or it was not
says : {bytes coords coords' : List ℕ} {r : ReadAnswer} → ReadCall bytes coords r coords' → is_ok r ≡ true → (job : Job) × (file_in (shot_count coords) bytes ≡ file job)
says {bytes} {coords} call t = go (file_in (shot_count coords) bytes) refl (sym (ap is_ok call.answer) ∙ t)
  where
    go : (k : File) → file_in (shot_count coords) bytes ≡ k → is_ok (read_answer k) ≡ true → (job : Job) × (file_in (shot_count coords) bytes ≡ file job)
    go (file job) e t = (job, e)
    go (refused q) e t = absurd (false≢true t)

says_none : {bytes coords coords' : List ℕ} {r : ReadAnswer} → ReadCall bytes coords r coords' → is_ok r ≡ false → {job : Job} → file_in (shot_count coords) bytes ≡ file job → ⊥
says_none call f e = true≢false (sym (ap is_ok call.answer ∙ ap (λ (k : File). is_ok (read_answer k)) e) ∙ f)

module _ {bytes coords coords' others others-coords others' : List ℕ} {one two : ReadAnswer}
    (read : ReadCall bytes coords one coords') (other : ReadCall others others-coords two others') where
  pub first-unread : {r : Bool} → is_ok one ≡ false → r ≡ false → FilesCompared bytes coords others others-coords r
  first-unread f e = record {
    same_job = (λ t. absurd (true≢false (sym t ∙ e)), λ (job, s, o). absurd (says_none read f s));
    same_bytes = λ j k s o. absurd (says_none read f s);
  }

  pub second-unread : {r : Bool} → is_ok two ≡ false → r ≡ false → FilesCompared bytes coords others others-coords r
  second-unread f e = record {
    same_job = (λ t. absurd (true≢false (sym t ∙ e)), λ (job, s, o). absurd (says_none other f o));
    same_bytes = λ j k s o. absurd (says_none other f o);
  }

  pub both_read : {r : Bool} → Bytes bytes → Bytes others → is_ok one ≡ true → is_ok two ≡ true → r ≡ same bytes others → FilesCompared bytes coords others others-coords r
  both_read {r} b c t u e =
      let (job, s) = says read t in
      let (list, o) = says other u in
      let to : r ≡ true → bytes ≡ others = λ q. (same-iff bytes others).0 (sym e ∙ q) in
      record {
        same_job = (
          λ q. (job, s, o ∙ ap file (sym (one_list others (shot_count coords) (shot_count others-coords) (subst (λ (l : List ℕ). file_in (shot_count coords) l ≡ file job) (to q) s) o))),
          λ (k, s', o'). e ∙ (same-iff bytes others).1 (same_bytes bytes others (shot_count coords) (shot_count others-coords) k b c s' o'),
        );
        same_bytes = λ j k s' o'. (to, λ q. e ∙ (same-iff bytes others).1 q);
      }
