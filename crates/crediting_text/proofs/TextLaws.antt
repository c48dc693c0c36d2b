-- The lines of the credits one after another; and what crediting a list and a file leaves, by what reading the file and crediting its list
-- answer.
use mathlib.Core.Path.{◌≡◌, sym, ◌∙◌, ap, subst}
use mathlib.Core.List.{List}
use Prim.Native.Nat.{ℕ, zero, suc, ◌+◌, ◌*◌, ◌≤◌, ◌<◌}
use native.Mathlib.Omega.{arith}
use lib.ListN.{length, get_or, take, drop, length-append}
use lib.Seq.{take_at, length-take-le}
use Rattle.buffer.specs.Wrote.{Wrote}
use Rattle.buffer.proofs.WroteLaws.{wrote_none, wrote_as, wrote_then}
use Rattle.ground.specs.Sums.{join}
use Rattle.job.specs.Job.{Job, job_of, shot_count, first_shots}
use Rattle.job.specs.declared.Stored.{Stored}
use Rattle.refusals.specs.declared.Refusal.{Refusal}
use Rattle.shotfile_reader.specs.Files.{File, file, file_in}
use Rattle.shotfile_reader.specs.Calls.{ReadCall, ReadAnswer}
use Rattle.shotfile_reader.proofs.Accepted.{accepted-file, refused-file}
use Rattle.ground.proofs.JoinLaws.{join-next}
use Rattle.text_parts.proofs.LineLaws.{digits-length, line-length}
use Rattle.text_parts.specs.Decimal.{decimal}
use Rattle.text_refusal.specs.RefusalLine.{refusal_text}
use Rattle.quoting_text.specs.Quoting.{index_after}
use Rattle.crediting.specs.Credits.{credits_of, CreditCall}
use Rattle.crediting.proofs.FieldLaws.{credits-long}
use Rattle.crediting.proofs.CreditTheorems.{credit-holds, credits-are}
use Rattle.crediting_text.specs.Credited.{credit_line, credit_lines, credited_text, list_text, file_text, file_credits, ListCredited, FileCredited}
use Rattle.refusals.specs.Refusals.{Checked}
use Rattle.std.specs.Prelude.{Ok, Err}

-- ---- the lines

line-few : (s c : ℕ) → length (credit_line s c) ≤ 42
line-few s c = omega (arith, line-length (decimal s) c, digits-length 20 s)

module _ (credits out : List ℕ) where
  -- the lines of the first shots
  abbrev pub LinesTo : List ℕ → ℕ → ℕ → Type 0
  LinesTo now next n = Wrote out now 0 next (join n λ s. credit_line s (get_or credits s 0))

  pub lines_none : LinesTo out 0 0
  unfolding join
  lines_none = wrote_none out 0 (omega arith)

  pub lines_next : (n : ℕ) {now then : List ℕ} {next after : ℕ} → LinesTo now next n → Wrote now then next after (credit_line n (get_or credits n 0)) → LinesTo then after (n + 1)
  lines_next n a b = wrote_as (sym (join-next (λ s. credit_line s (get_or credits s 0)) n)) (wrote_then a b)

  lines-few : (n : ℕ) → length (join n (λ s. credit_line s (get_or credits s 0))) ≤ 42 * n
  unfolding join
  lines-few zero = omega arith
  lines-few (suc n) = omega (arith, length-append (join n (λ s. credit_line s (get_or credits s 0))) (credit_line n (get_or credits n 0)), lines-few n, line-few n (get_or credits n 0))

  pub lines-room : (n : ℕ) {now : List ℕ} {next : ℕ} → LinesTo now next n → n < length credits → 42 * length credits ≤ length out → next + 42 ≤ length out
  lines-room n a h k = omega (arith, a.next, lines-few n)

  pub lines-all : (n : ℕ) → n ≡ length credits → {now : List ℕ} {next : ℕ} → LinesTo now next n → Wrote out now 0 next (credit_lines credits)
  unfolding credit_lines
  lines-all n e a = wrote_as (ap (λ n. join n λ s. credit_line s (get_or credits s 0)) e) a

-- ---- a list

module _ {job : Job} {work credits work' credits' : List ℕ} {c : Checked} (call : CreditCall job work credits c work' credits') where
  open job use {field as F, edge as E, coords}

  list-is : {n : ℕ} {out out' : List ℕ} → Wrote out out' 0 n (credited_text c (credits_of F E coords)) → ListCredited job work credits out n work' credits' out'
  unfolding list_text
  list-is w = record { text = wrote_as (ap (λ d. credited_text d (credits_of F E coords)) call.answer) w; index = call.index; credited = call.credited }

  pub list-refused : (r : Refusal) → c ≡ Err r → {n : ℕ} {out out' : List ℕ} → Wrote out out' 0 n (refusal_text r) → ListCredited job work credits out n work' credits' out'
  list-refused r e w = list-is (wrote_as (ap (λ d. credited_text d (credits_of F E coords)) (sym e)) w)

  module _ (accepted : c ≡ Ok tt) where
    taken : CreditCall job work credits (Ok tt) work' credits'
    taken = subst (λ d. CreditCall job work credits d work' credits') accepted call

    -- the shots' places hold their credits, and there are at most 4,096 shots
    pub shots-there : {n : ℕ} → n ≡ shot_count coords → n ≤ length credits'
    shots-there e = omega (arith, e, ap length (credits-are taken), length-append (credits_of F E coords) (drop (length (credits_of F E coords)) credits), credits-long F E coords)

    pub shots-few : {n : ℕ} → n ≡ shot_count coords → {room : ℕ} → 172032 ≤ room → 42 * length (take n credits') ≤ room
    shots-few {n} e h = omega (arith, length-take-le n credits' (shots-there e), e, (credit-holds taken).valid.few)

    front : {n : ℕ} → n ≡ shot_count coords → take n credits' ≡ credits_of F E coords
    front {n} e = ap (take n) (credits-are taken) ∙ take_at (credits_of F E coords) (drop (length (credits_of F E coords)) credits) n (credits-long F E coords ∙ sym e)

    pub list-credited : {n : ℕ} → n ≡ shot_count coords → {m : ℕ} {out out' : List ℕ} → Wrote out out' 0 m (credit_lines (take n credits')) → ListCredited job work credits out m work' credits' out'
    list-credited e w = list-is (wrote_as (ap credit_lines (front e) ∙ ap (λ d. credited_text d (credits_of F E coords)) (sym accepted)) w)

-- ---- a file

module _ {bytes coords coords' : List ℕ} {a : ReadAnswer} (read : ReadCall bytes coords a coords') where
  pub file-uncredited : {n : ℕ} {work credits out out' : List ℕ} (r : Refusal) → a ≡ Err r → Wrote out out' 0 n (refusal_text r) → FileCredited bytes coords work credits out n coords' work credits out'
  file-uncredited {n} {work} {credits} r e w =
      let k = sym (refused-file read e).0 in
      record {
        text = wrote_as (ap (λ (f : File). file_text f (length work) (length credits)) k) w;
        coordinates = read.coordinates;
        index = ap (λ (f : File). index_after f work) k;
        credited = ap (λ (f : File). file_credits f (length work) credits) k;
      }

  pub file-credited : {n : ℕ} {work work' credits credits' out out' : List ℕ} {stored : Stored} {job : Job} → a ≡ Ok stored → job ≡ job_of stored.field stored.edge stored.grid (first_shots stored.shots coords')
      → ListCredited job work credits out n work' credits' out' → FileCredited bytes coords work credits out n coords' work' credits' out'
  file-credited {n} {work} {work'} {credits} {job = job} e l q =
      let is : file job ≡ file_in (shot_count coords) bytes = ap file l ∙ sym (accepted-file read e).is in
      record {
        text = wrote_as (ap (λ (f : File). file_text f (length work) (length credits)) is) q.text;
        coordinates = read.coordinates;
        index = q.index ∙ ap (λ (f : File). index_after f work) is;
        credited = q.credited ∙ ap (λ (f : File). file_credits f (length work) credits) is;
      }
