-- The text of a file whose list is accepted fits the buffer of the program `write_shots`, which takes 262,143 bytes. Assumes nothing.
use mathlib.Core.Path.{◌≡◌, ap}
use mathlib.Core.Bool.{Bool, true, false, cond}
use mathlib.Core.List.{List, [], ◌∷◌, ◌++◌}
use Prim.Native.Nat.{ℕ, zero, suc, ◌+◌, ◌*◌, ◌/◌, ◌%◌, ◌≤◌, ◌<◌}
use native.Mathlib.Omega.{arith}
use lib.Dec.{ltb, eqb}
use lib.ListN.{length, get_or, length-append}
use borrow.Author.Tests.{lt-ltb}
use Rattle.job.specs.Job.{Job, shots, shots_of, shot_count, Valid}
use Rattle.job.specs.Checking.{checked}
use Rattle.job.proofs.Conditions.{accepted-valid}
use Rattle.text_parts.specs.Text.{text}
use Rattle.text_parts.specs.Decimal.{digits, decimal}
use Rattle.shotfile_records.specs.declared.Fields.{Fields}
use Rattle.shotfile_reader.specs.declared.Cursor.{Cursor}
use Rattle.shotfile_records.specs.Records.{header_absent}
use Rattle.shotfile_records.specs.Numbers.{setting_fields}
use Rattle.shotfile_reader.specs.Files.{file, first_shot, file_in}
use Rattle.shotfile_reader.proofs.Coords.{count-more}
use Rattle.shotfile_reader.proofs.ShotsRead.{Reads, done, shot}
use Rattle.shotfile_reader.proofs.FileParts.{file-parts}
use Rattle.shotfile_records.proofs.Parts.{parts}
use Rattle.shotfile.proofs.ReadBack.{SmallShots, small-more}
use Rattle.shotfile.proofs.RoundTrip.{small-shots}
use Rattle.shotfile_lines.specs.Lines.{note, setting_line, settings, shot_line}
use Rattle.shotfile_shots.specs.ShotLines.{shot_lines}
use Rattle.shotfile_text.specs.Text.{plain_text}
use Rattle.typed_again.proofs.Retyped.{lines_end, lines-shot, file-text}
use Rattle.std.specs.Prelude.{Ok}

-- ---- numbers with few digits
few : (n a : ℕ) → a < 10 → length (digits n a) ≤ 1
unfolding digits
few zero a h = omega arith
few (suc n) a h = rw (lt-ltb a 10 h) (omega arith)

one_more : (most k : ℕ) → ((n a : ℕ) → a < most → length (digits n a) ≤ k) → (n a : ℕ) → a < 10 * most → length (digits n a) ≤ k + 1
unfolding digits
one_more most k few zero a h = omega arith
one_more most k few (suc n) a h = omega (arith, length-append (cond (ltb a 10) [] (digits n (a / 10))) ((48 + a % 10) ∷ []), go (ltb a 10))
  where
    go : (b : Bool) → length (cond b [] (digits n (a / 10))) ≤ k
    go true = omega arith
    go false = few n (a / 10) (omega arith)

five : (a : ℕ) → a < 100000 → length (decimal a) ≤ 5
five a h = one_more 10000 4 (one_more 1000 3 (one_more 100 2 (one_more 10 1 few))) 20 a h

-- ---- the lines
setting-length : (name : List ℕ) (a bit : ℕ) → a < 100000 → length (setting_line name a bit) ≤ length name + 16
unfolding setting_line note
setting-length name a bit h = simp length-append (omega (arith, five a h, go (eqb bit 0)))
  where
    go : (b : Bool) → length (cond b (text " # default") []) ≤ 10
    go true = omega arith
    go false = omega arith

shot-length : (f : Fields) (n at : ℕ) → f.first < 65536 → f.second < 65536 → f.third < 65536 → n < 100000 → at < 100000 → length (shot_line f n at) ≤ 50
unfolding shot_line
shot-length f n at hx hy hz hn ha =
    simp length-append (omega (arith, five f.first (omega arith), five f.second (omega arith), five f.third (omega arith), five n hn, five at ha))

settings-length : (m : ℕ) (f : Fields) → f.first < 100000 → f.second < 100000 → f.third < 100000 → length (settings m f) ≤ 66
unfolding settings
settings-length m f hf he hg =
    omega (
      arith,
      length-append (setting_line (text "field ") f.first (m % 2)) (setting_line (text "edge ") f.second (m / 2 % 2) ++ setting_line (text "grid ") f.third (m / 4)),
      length-append (setting_line (text "edge ") f.second (m / 2 % 2)) (setting_line (text "grid ") f.third (m / 4)),
      setting-length (text "field ") f.first (m % 2) hf,
      setting-length (text "edge ") f.second (m / 2 % 2) he,
      setting-length (text "grid ") f.third (m / 4) hg,
    )

-- ---- the shots: a record has at most 7 bytes
shots-length : (s : List ℕ) (e : ℕ) {allowed room : ℕ} {c : Cursor} {coords : List ℕ} → Reads s allowed room c coords → SmallShots (shots_of e coords) → (left n : ℕ)
    → shot_count coords ≤ left
    → n + shot_count coords ≤ 4096
    → c.at + 7 * shot_count coords ≤ 28679
    → length (shot_lines left n s c) ≤ 50 * shot_count coords
shots-length s e {allowed} {room} {c} (done h) small left n l m p = omega (arith, ap length (lines_end s left n c h))
shots-length s e (shot {f = f} {coords = coords} h q r) small zero n l m p = absurd (omega (arith, count-more f coords))
shots-length s e {allowed} {room} {c} (shot {f = f} {end = end} {coords = coords} h q r) small (suc left) n l m p =
    let b = parts s c.at c.last q in
    let (here, later) = small-more e f coords small in
    let more-shots = count-more f coords in
    omega (
      arith,
      more-shots,
      ap length (lines-shot s left n c h q),
      length-append (shot_line f n c.at) (shot_lines left (n + 1) s (record { at = end; last = f })),
      shot-length f n c.at here.first_small here.second-small here.third-small (omega (arith, more-shots)) (omega (arith, more-shots)),
      shots-length s e r later left (n + 1) (omega (arith, more-shots)) (omega (arith, more-shots)) (omega (arith, more-shots, b.end_is, b.known)),
    )

-- ---- the text
pub text-fits : (s : List ℕ) (places : ℕ) (job : Job) → file_in places s ≡ file job → checked job ≡ Ok tt → length (plain_text places s) ≤ 262143
text-fits s places job e a =
    let f = setting_fields job in
    let q = file-parts s places e in
    let v : Valid job = (accepted-valid job).0 a in
    let b = parts s 0 header_absent q.header in
    omega (
      arith,
      ap length (file-text s places job e a),
      length-append (settings (get_or s 0 0) f) (shot_lines 4096 0 s (first_shot q.end)),
      settings-length (get_or s 0 0) f (omega (arith, v.field_most)) (omega (arith, v.field_most, v.edge_most)) (omega (arith, v.grid_most)),
      shots-length s job.edge q.rest (small-shots job.field (shots job) v.field_most v.inside) 4096 0 (omega (arith, v.few)) (omega (arith, v.few)) (omega (arith, v.few, b.end_is, b.known)),
      v.few,
    )
