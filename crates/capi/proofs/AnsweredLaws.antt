-- What each call promises, by the numbers that are put to the front of a lent slice.
use mathlib.Core.Path.{◌≡◌, refl, sym, ◌∙◌, ap}
use mathlib.Core.Bool.{Bool, true, false, cond}
use mathlib.Core.List.{List, [], ◌∷◌}
use Prim.Native.Nat.{ℕ, ◌≤◌, ◌<◌}
use lib.Dec.{leb}
use lib.ListN.{length}
use borrow.Author.Tests.{lt-leb, le-leb}
use Rattle.job.specs.Job.{Job, shot_count}
use Rattle.refusals.specs.Refusals.{number_of, detail_of, checked_numbers, Checked}
use Rattle.refusals.specs.Tests.{if_accepted, first_of, first_numbers}
use Rattle.measure_intake.specs.Intake.{measured_numbers, measure_tests, measure_numbers, work_after, IndexCall, MeasureCall, Measured}
use Rattle.measure.specs.Answers.{list_numbers, listing_after, ListCall}
use Rattle.shotfile_reader.specs.Files.{File, file, refused, file_in}
use Rattle.shotfile_writer.specs.Files.{file_of}
use Rattle.buffer.specs.Wrote.{in_front}
use Rattle.shotfile_reader.specs.Calls.{ReadAnswer, read_numbers, read_values, read_coords, ReadCall}
use Rattle.shotfile_writer.specs.Calls.{WriteAnswer, written_numbers, write_tests, write_values, write_bytes, WriteCall}
use Rattle.vox.specs.Vox.{vox_in, VoxCall}
use Rattle.grid_cover.specs.Cover.{first_covering}
use Rattle.crediting.specs.Credits.{credits_after, CreditCall}
use Rattle.section.specs.Section.{places_of}
use Rattle.section.specs.declared.Places.{Places}
use Rattle.capi_answers.specs.Places.{index_places, measure_places, price_places, cover_places, part_places}
use Rattle.capi.specs.Answered.{fits, Told, corners_at_tells, credit_tells, price_tells, covers_tells, IndexTold, MeasureTold, ListTold, CornersAtTold, CreditTold, PriceTold, CoversTold, ReadTold, VoxTold, WriteTold}
use Rattle.std.specs.Prelude.{Ok, Err, Option}
use Rattle.price_charging.specs.Charging.{Tables, Priced, priced_numbers}
use Rattle.price.specs.Price.{PriceCall}

-- ---- numbers, n of them
module _ (numbers : List ℕ) {n : ℕ} (size : length numbers ≡ n) (answer : List ℕ) where
  fit_is : {b : Bool} → leb n (length answer) ≡ b → fits numbers answer ≡ b
  fit_is e = ap (λ m. leb m (length answer)) size ∙ e

  -- where they do not fit
  module _ (h : length answer < n) where
    no-fit : fits numbers answer ≡ false
    no-fit = fit_is (lt-leb n (length answer) h)

    pub untold : Told numbers answer 0 answer
    untold = record { gives = ap (λ b. cond b 1 0) (sym no-fit); answered = ap (λ b. cond b (in_front numbers answer) answer) (sym no-fit) }

    pub kept : (done slice : List ℕ) → slice ≡ cond (fits numbers answer) done slice
    kept done slice = ap (λ b. cond b done slice) (sym no-fit)

  -- and where they do
  module _ (h : n ≤ length answer) where
    fit : fits numbers answer ≡ true
    fit = fit_is (le-leb n (length answer) h)

    pub told : {put answer' : List ℕ} → answer' ≡ in_front put answer → put ≡ numbers → Told numbers answer 1 answer'
    told e k = record {
      gives = ap (λ b. cond b 1 0) (sym fit);
      answered = e ∙ ap (λ p. in_front p answer) k ∙ ap (λ b. cond b (in_front numbers answer) answer) (sym fit);
    }

    pub done-is : {slice' : List ℕ} (done slice : List ℕ) → slice' ≡ done → slice' ≡ cond (fits numbers answer) done slice
    done-is done slice e = e ∙ ap (λ b. cond b done slice) (sym fit)

-- how many numbers a file has
read-six : (f : File) → length (read_values f) ≡ 6
unfolding read_values
read-six (file job) = refl
read-six (refused r) = refl

write-three : (job : Job) (room : ℕ) → length (write_values job room) ≡ 3
unfolding write_values
write-three job room = by (first_of (write_tests job room))
  where
    by : (c : Checked) → length (if_accepted c (λ r. number_of r ∷ detail_of r ∷ 0 ∷ []) (0 ∷ 0 ∷ length (file_of job) ∷ [])) ≡ 3
    by (Ok tt) = refl
    by (Err r) = refl

-- ---- the calls
module _ {job : Job} {work : List ℕ} (answer : List ℕ) where
  pub index-untold : length answer < 2 → IndexTold job work answer 0 work answer
  index-untold h =
      let n = index_places (first_numbers (measure_tests job (length work))) in
      record { told = untold n refl answer h; index = kept n refl answer h (work_after job work) work }

  pub index-told : {c : Checked} {work' answer' : List ℕ} → 2 ≤ length answer → IndexCall job work c work' → answer' ≡ in_front (index_places (checked_numbers c)) answer
      → IndexTold job work answer 1 work' answer'
  index-told h call e =
      let n = index_places (first_numbers (measure_tests job (length work))) in
      record { told = told n refl answer h e (ap index_places call.numbers); index = done-is n refl answer h (work_after job work) work call.index }

  pub measure-untold : length answer < 7 → MeasureTold job work answer 0 work answer
  measure-untold h =
      let n = measure_places (measure_numbers job (length work)) in
      record { told = untold n refl answer h; index = kept n refl answer h (work_after job work) work }

  pub measure-told : {m : Measured} {work' answer' : List ℕ} → 7 ≤ length answer → MeasureCall job work m work' → answer' ≡ in_front (measure_places (measured_numbers m)) answer
      → MeasureTold job work answer 1 work' answer'
  measure-told h call e =
      let n = measure_places (measure_numbers job (length work)) in
      record { told = told n refl answer h e (ap measure_places call.numbers); index = done-is n refl answer h (work_after job work) work call.index }

  pub list-untold : {buffer : List ℕ} → length answer < 7 → ListTold job work buffer answer 0 work buffer answer
  list-untold {buffer} h =
      let n = measure_places (list_numbers job (length work) (length buffer)) in
      record {
        told = untold n refl answer h;
        index = kept n refl answer h (work_after job work) work;
        listing = kept n refl answer h (listing_after job (length work) buffer) buffer;
      }

  pub list-told : {m : Measured} {buffer work' buffer' answer' : List ℕ} → 7 ≤ length answer → ListCall job work buffer m work' buffer'
      → answer' ≡ in_front (measure_places (measured_numbers m)) answer → ListTold job work buffer answer 1 work' buffer' answer'
  list-told {m} {buffer} h call e =
      let n = measure_places (list_numbers job (length work) (length buffer)) in
      record {
        told = told n refl answer h e (ap measure_places call.numbers);
        index = done-is n refl answer h (work_after job work) work call.index;
        listing = done-is n refl answer h (listing_after job (length work) buffer) buffer call.listing;
      }

  pub credit-untold : {credits : List ℕ} → length answer < 2 → CreditTold job work credits answer 0 work credits answer
  credit-untold {credits} h =
      let n = credit_tells job work credits in
      record {
        told = untold n refl answer h;
        index = kept n refl answer h (work_after job work) work;
        credited = kept n refl answer h (credits_after job (length work) credits) credits;
      }

  pub credit-told : {c : Checked} {credits work' credits' answer' : List ℕ} → 2 ≤ length answer → CreditCall job work credits c work' credits'
      → answer' ≡ in_front (index_places (checked_numbers c)) answer → CreditTold job work credits answer 1 work' credits' answer'
  credit-told {c} {credits} h call e =
      let n = credit_tells job work credits in
      record {
        told = told n refl answer h e (ap index_places call.numbers);
        index = done-is n refl answer h (work_after job work) work call.index;
        credited = done-is n refl answer h (credits_after job (length work) credits) credits call.credited;
      }

  module _ (t : Tables) where
    pub price-untold : length answer < 5 → PriceTold job work t answer 0 work answer
    price-untold h =
        let n = price_tells job work t in
        record { told = untold n refl answer h; index = kept n refl answer h (work_after job work) work }

    pub price-told : {p : Priced} {work' answer' : List ℕ} → 5 ≤ length answer → PriceCall job work t p work' → answer' ≡ in_front (price_places (priced_numbers p)) answer
        → PriceTold job work t answer 1 work' answer'
    price-told h call e =
        let n = price_tells job work t in
        record { told = told n refl answer h e (ap price_places call.numbers); index = done-is n refl answer h (work_after job work) work call.index }

-- the corners at one x
module _ (listing : List ℕ) (x : ℕ) (answer : List ℕ) where
  pub corners-at-untold : length answer < 4 → CornersAtTold listing x answer 0 answer
  corners-at-untold h = record { told = untold (corners_at_tells listing x) refl answer h }

  pub corners-at-told : {p : Places} {answer' : List ℕ} → 4 ≤ length answer → p ≡ places_of listing x → answer' ≡ in_front (part_places p) answer → CornersAtTold listing x answer 1 answer'
  corners-at-told h is e = record { told = told (corners_at_tells listing x) refl answer h e (ap part_places is) }

module _ (E : ℕ) (coords run : List ℕ) (i j k : ℕ) (answer : List ℕ) where
  pub covers-untold : length answer < 2 → CoversTold E coords run i j k answer 0 answer
  covers-untold h = record { told = untold (covers_tells E coords run i j k) refl answer h }

  pub covers-told : {c : Option ℕ} {answer' : List ℕ} → 2 ≤ length answer → c ≡ first_covering E coords run i j k → answer' ≡ in_front (cover_places c) answer
      → CoversTold E coords run i j k answer 1 answer'
  covers-told h is e = record { told = told (covers_tells E coords run i j k) refl answer h e (ap cover_places is) }

-- a file that says f, whatever its form
module _ (f : File) (coords answer : List ℕ) where
  file-untold : length answer < 6 → Told (read_values f) answer 0 answer × (coords ≡ cond (fits (read_values f) answer) (read_coords f coords) coords)
  file-untold h = (untold (read_values f) (read-six f) answer h, kept (read_values f) (read-six f) answer h (read_coords f coords) coords)

  file-told : {put coords' answer' : List ℕ} → 6 ≤ length answer → put ≡ read_values f → coords' ≡ read_coords f coords → answer' ≡ in_front put answer
      → Told (read_values f) answer 1 answer' × (coords' ≡ cond (fits (read_values f) answer) (read_coords f coords) coords)
  file-told h n c e = (told (read_values f) (read-six f) answer h e n, done-is (read_values f) (read-six f) answer h (read_coords f coords) coords c)

module _ {bytes coords : List ℕ} (answer : List ℕ) where
  pub read-untold : length answer < 6 → ReadTold bytes coords answer 0 coords answer
  read-untold h = let (t, c) = file-untold (file_in (shot_count coords) bytes) coords answer h in record { told = t; coordinates = c }

  pub read_told : {a : ReadAnswer} {coords' answer' : List ℕ} → 6 ≤ length answer → ReadCall bytes coords a coords' → answer' ≡ in_front (read_numbers a) answer → ReadTold bytes coords answer 1 coords' answer'
  read_told h call e = let (t, c) = file-told (file_in (shot_count coords) bytes) coords answer h call.numbers call.coordinates e in record { told = t; coordinates = c }

  pub vox-untold : length answer < 6 → VoxTold bytes coords answer 0 coords answer
  vox-untold h = let (t, c) = file-untold (vox_in (shot_count coords) bytes) coords answer h in record { told = t; coordinates = c }

  pub vox-told : {a : ReadAnswer} {coords' answer' : List ℕ} → 6 ≤ length answer → VoxCall bytes coords a coords' → answer' ≡ in_front (read_numbers a) answer → VoxTold bytes coords answer 1 coords' answer'
  vox-told h call e = let (t, c) = file-told (vox_in (shot_count coords) bytes) coords answer h call.numbers call.coordinates e in record { told = t; coordinates = c }

module _ {job : Job} {bytes : List ℕ} (answer : List ℕ) where
  pub write-untold : length answer < 3 → WriteTold job bytes answer 0 bytes answer
  write-untold h =
      let n = write_values job (length bytes) in
      let size = write-three job (length bytes) in
      record { told = untold n size answer h; file = kept n size answer h (write_bytes job bytes) bytes }

  pub write-told : {w : WriteAnswer} {bytes' answer' : List ℕ} → 3 ≤ length answer → WriteCall job bytes w bytes' → answer' ≡ in_front (written_numbers w) answer
      → WriteTold job bytes answer 1 bytes' answer'
  write-told h call e =
      let n = write_values job (length bytes) in
      let size = write-three job (length bytes) in
      record { told = told n size answer h e call.numbers; file = done-is n size answer h (write_bytes job bytes) bytes call.file }
