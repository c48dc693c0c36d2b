-- What the part of a listing holds, and what a reader meets in it where `measure::list` stored the listing.
use mathlib.Core.Path.{◌≡◌, sym, ◌∙◌, ap, subst}
use mathlib.Core.List.{List}
use Rattle.std.specs.Prelude.{Option}
use Prim.Native.Nat.{ℕ, ◌*◌, ◌≤◌}
use native.Mathlib.Omega.{arith}
use lib.ListN.{length, take, drop}
use lib.Seq.{slice}
use Rattle.job.specs.Job.{Job}
use Rattle.lattice.specs.Listing.{corners, bytes, read_back}
use Rattle.lattice_sums.specs.declared.sums.Totals.{Totals}
use Rattle.refusals.specs.declared.Refusal.{Refusal}
use Rattle.section.specs.Section.{first_step, first_run, with_x, places_of, part_with}
use Rattle.section.specs.declared.Places.{Places}
use Rattle.section.specs.declared.Corner.{Corner as Found}
use Rattle.section.proofs.ListedRuns.{run-is-first, run_none, listing-run, listing-section}
use Rattle.ground.specs.Numbers.{Bytes}
use Rattle.section.proofs.RunLaws.{places-in, places-empty, part-reads, part-run}
use Rattle.measure_intake.specs.Intake.{solid, Measured}
use Rattle.measure.specs.Answers.{ListAccepts, ListCall}
use Rattle.measure.proofs.Refused.{listing-fits, list-accepts}
use Rattle.measure.proofs.Condition3.{bytes-are}
use Rattle.acceptance.specs.Sections.{PartAt, PlacesAt}
use Rattle.std.specs.Prelude.{Ok, Err}

pub part-promised : {l r : List ℕ} {x : ℕ} → Bytes l → r ≡ part_with l x → PartAt l x r
unfolding bytes
part-promised {l} {r} {x} h e = record {
  run = e ∙ part-run l x h;
  first = let reads : read_back r ≡ first_run x (read_back l) = ap read_back e ∙ part-reads l x in rw reads (run-is-first x (read_back l));
  empty = λ none. e ∙ (part-run l x h ∙ ap bytes (run_none x (read_back l) none));
  made = λ n s k. listing-section n s x (e ∙ ap (λ l. part_with l x) k);
}

pub places-promised : {l : List ℕ} {r : Places} {x : ℕ} → Bytes l → r ≡ places_of l x → PlacesAt l x r
unfolding part_with bytes
places-promised {l} {r} {x} h e =
    let lies : slice r.first r.end l ≡ part_with l x = ap (λ (p : Places). slice p.first p.end l) e in
    let within = places-in l x in
    record {
      inside = rw e within;
      part = part-promised h lies;
      none = λ none.
          let at : r ≡ record { first = 0; end = 0 } = e ∙ places-empty l x (part-run l x h ∙ ap bytes (run_none x (read_back l) none)) in
          (ap (λ (p : Places). p.first) at, ap (λ (p : Places). p.end) at);
    }

module _ {job : Job} {work buffer work' buffer' : List ℕ} {m : Measured} (call : ListCall job work buffer m work' buffer') where
  open job use {field as F}

  pub listed-fits : {t : Totals} → m ≡ Ok t → 7 * t.corners ≤ length buffer
  listed-fits e = listing-fits job (length work) (length buffer) (sym e ∙ call.answer)

  listed-run : (x : ℕ) {t : Totals} → m ≡ Ok t → first_run x (read_back (take (7 * t.corners) buffer')) ≡ with_x x (corners F (solid job))
  listed-run x e =
      ap (λ l. first_run x (read_back l)) (bytes-are (subst (λ (m : Measured). ListCall job work buffer m work' buffer') e call))
      ∙ listing-run F (solid job) x

  pub listed-met : (x k : ℕ) {t : Totals} {r : Option Found} → m ≡ Ok t → r ≡ first_step (drop k (first_run x (read_back (take (7 * t.corners) buffer')))) → r ≡ first_step (drop k (with_x x (corners F (solid job))))
  listed-met x k e s = s ∙ ap (λ vs. first_step (drop k vs)) (listed-run x e)

  -- a refused list is none that is accepted
  pub listed-refused : {f : Refusal} → m ≡ Err f → ListAccepts job (length work) (length buffer) → ⊥
  listed-refused e a =
      let quoted = ((list-accepts call).1 a).1 in
      let z : ◌≡◌ {A = ℕ} 0 1 = cc in
      omega arith
