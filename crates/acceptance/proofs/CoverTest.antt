-- Requests (iii) and (iv), of the cover test, from what it promises. Assumes nothing.
use mathlib.Core.Path.{◌≡◌, refl, sym, ◌∙◌, ap, subst}
use mathlib.Core.Bool.{Bool, true, false, cond, true≢false, ◌||◌}
use mathlib.Core.List.{List, [], ◌∷◌}
use Prim.Native.Nat.{ℕ, zero, suc, ◌+◌, ◌≤◌, ◌<◌}
use native.Mathlib.Omega.{arith}
use lib.Dec.{leb}
use lib.ListN.{length, get_or}
use borrow.Author.Tests.{leb-false, lt-leb}
use Rattle.ground.proofs.Bools.{or-false}
use Rattle.refusals.specs.declared.Refusal.{Refusal}
use Rattle.job.specs.Job.{Job}
use Rattle.grid.specs.Grid.{grid_cells, holding, between, Starts, Holds}
use Rattle.grid_runs.proofs.ReadLaws.{holds-starts, holds-run}
use Rattle.grid_cover.specs.Cover.{shot_covers, first, first_covering, lowest_covering}
use Rattle.grid_cover.proofs.CoverRuns.{lowest-covers, holding-in, holding-names}
use Rattle.grid_cover.proofs.LowestLaws.{lowest-shot, lowest-covering, lowest-least}
use Rattle.measure_intake.specs.Intake.{IndexCall}
use Rattle.measure_intake.proofs.Refused.{index-accepts}
use Rattle.acceptance.specs.CoverTest.{FirstNamed, LowestNamed, InField, Covered}
use Rattle.refusals.specs.Refusals.{Checked}
use Rattle.std.specs.Prelude.{Ok, Err, Option, Some, None, is_some}

-- ---- any run
pub record Found (f : ℕ → Bool) (run : List ℕ) (s n : ℕ) : Type 0 where
  pub in_run : n < length run
  pub is : get_or run n 0 ≡ s
  pub passes : f s ≡ true
  pub none_before : (m : ℕ) → m < n → f (get_or run m 0) ≡ false

found-later : {f : ℕ → Bool} {t s n : ℕ} {run : List ℕ} → f t ≡ false → Found f run s n → Found f (t ∷ run) s (suc n)
found-later {f} {t} {s} {n} {run} h r = record { in_run = omega (arith, r.in_run); is = r.is; passes = r.passes; none_before = earlier }
  where
    earlier : (m : ℕ) → m < suc n → f (get_or (t ∷ run) m 0) ≡ false
    earlier zero l = h
    earlier (suc m) l = r.none_before m (omega arith)

first_or_later : (f : ℕ → Bool) (t s : ℕ) (run : List ℕ) (b : Bool) → f t ≡ b → cond b (Some t) (first f run) ≡ Some s → (first f run ≡ Some s → (n : ℕ) × Found f run s n) → (n : ℕ) × Found f (t ∷ run) s n
first_or_later f t s run true h k rest = let same : t ≡ s = cc in (0, record { in_run = omega arith; is = same; passes = ap f (sym same) ∙ h; none_before = λ m l. absurd (omega arith) })
first_or_later f t s run false h k rest = let r = rest k in (suc r.0, found-later h r.1)

first_found : (f : ℕ → Bool) (run : List ℕ) (s : ℕ) → first f run ≡ Some s → (n : ℕ) × Found f run s n
unfolding first
first_found f [] s e = let z : ◌≡◌ {A = ℕ} 0 1 = cc in absurd (omega arith)
first_found f (t ∷ run) s e = first_or_later f t s run (f t) refl e (first_found f run s)

none-step : (f : ℕ → Bool) (t : ℕ) (run : List ℕ) (b : Bool) → f t ≡ b → cond b (Some t) (first f run) ≡ None → (first f run ≡ None → (m : ℕ) → m < length run → f (get_or run m 0) ≡ false) → (m : ℕ) → m < length (t ∷ run) → f (get_or (t ∷ run) m 0) ≡ false
none-step f t run true h k rest m l = let z : ◌≡◌ {A = ℕ} 0 1 = cc in absurd (omega arith)
none-step f t run false h k rest zero l = h
none-step f t run false h k rest (suc m) l = rest k m (omega arith)

first-None : (f : ℕ → Bool) (run : List ℕ) → first f run ≡ None → (m : ℕ) → m < length run → f (get_or run m 0) ≡ false
unfolding first
first-None f [] e m l = absurd (omega arith)
first-None f (t ∷ run) e m l = none-step f t run (f t) refl e (first-None f run) m l

pub first-named : (E : ℕ) (coords run : List ℕ) (i j k : ℕ) {r : Option ℕ} → r ≡ first_covering E coords run i j k → FirstNamed E coords run i j k r
unfolding first_covering
first-named E coords run i j k {r} is = go (first_covering E coords run i j k) refl
  where
    f : ℕ → Bool
    f s = shot_covers E coords s i j k

    go : (o : Option ℕ) → first (λ s. shot_covers E coords s i j k) run ≡ o → FirstNamed E coords run i j k r
    go None e = record {
      shot = λ s n. let z : None ≡ Some s = sym (is ∙ e) ∙ n in let y : ◌≡◌ {A = ℕ} 0 1 = cc in absurd (omega arith);
      nothing = λ n. first-None f run e;
    }
    go (Some s) e = record {
      shot = λ t n.
          let z : Some s ≡ Some t = sym (is ∙ e) ∙ n in
          let same : s ≡ t = cc in
          let p = first_found f run t (e ∙ ap Some same) in
          (p.0, record { in_run = p.1.in_run; is = p.1.is; covering = p.1.passes; none_before = p.1.none_before });
      nothing = λ n. let z : Some s ≡ None = sym (is ∙ e) ∙ n in let y : ◌≡◌ {A = ℕ} 0 1 = cc in absurd (omega arith);
    }

-- ---- the run of an index
lowest-named : (job : Job) (i j k : ℕ) {r : Option ℕ} → r ≡ lowest_covering job.edge job.coords i j k → LowestNamed job i j k r
lowest-named job i j k {r} is = go (lowest_covering job.edge job.coords i j k) refl
  where
    E : ℕ
    E = job.edge

    go : (o : Option ℕ) → lowest_covering E job.coords i j k ≡ o → LowestNamed job i j k r
    go None e = record {
      shot = λ s n. let z : None ≡ Some s = sym (is ∙ e) ∙ n in let y : ◌≡◌ {A = ℕ} 0 1 = cc in absurd (omega arith);
      nothing = λ n. sym (lowest-covers E job.coords i j k) ∙ ap is_some e;
    }
    go (Some s) e = record {
      shot = λ t n.
          let z : Some s ≡ Some t = sym (is ∙ e) ∙ n in
          let same : s ≡ t = cc in
          let low : lowest_covering E job.coords i j k ≡ Some t = e ∙ ap Some same in
          record {
            is_shot = lowest-shot E job.coords i j k t low;
            covering = lowest-covering E job.coords i j k t low;
            none_lower = lowest-least E job.coords i j k t low;
          };
      nothing = λ n. let z : Some s ≡ None = sym (is ∙ e) ∙ n in let y : ◌≡◌ {A = ℕ} 0 1 = cc in absurd (omega arith);
    }

pub covered-lowest : (job : Job) (i j k : ℕ) {entries : ℕ} {r : Option ℕ} → r ≡ lowest_covering job.edge job.coords i j k → Covered job entries i j k r
covered-lowest job i j k is accepts inside = lowest-named job i j k is

-- where the list is refused, or the cell lies outside, nothing is asked
pub unasked : {job : Job} {work work' : List ℕ} {c : Checked} {q : Refusal} {i j k : ℕ} {r : Option ℕ} → IndexCall job work c work' → c ≡ Err q → Covered job (length work) i j k r
unasked call e accepts inside =
    let taken : Ok tt ≡ Err _ = sym ((index-accepts call).1 accepts) ∙ e in
    let z : ◌≡◌ {A = ℕ} 0 1 = cc in
    absurd (omega arith)

pub outside-unasked : {job : Job} {entries i j k : ℕ} {r : Option ℕ} → (leb job.field i || (leb job.field j || leb job.field k)) ≡ true → Covered job entries i j k r
outside-unasked {job} {entries} {i} {j} {k} e accepts inside =
    absurd (true≢false (sym e ∙ rw (lt-leb job.field i inside.x_in, lt-leb job.field j inside.y_in, lt-leb job.field k inside.z_in)))

pub inside-field : {F i j k : ℕ} → (leb F i || (leb F j || leb F k)) ≡ false → InField F i j k
inside-field {F} {i} {j} {k} e =
    let x = or-false (leb F i) (leb F j || leb F k) e in
    let yz = or-false (leb F j) (leb F k) x.1 in
    record { x_in = leb-false F i x.0; y_in = leb-false F j yz.0; z_in = leb-false F k yz.1 }

module _ {job : Job} {work : List ℕ} (holds : Holds job work) {i j k cells cell : ℕ} (inside : InField job.field i j k)
    (all : cells ≡ grid_cells job) (is : cell ≡ holding job.field job.grid i j k) where
  known : holding job.field job.grid i j k + 1 ≤ grid_cells job
  known = omega (arith, holding-in holds.valid i j k inside.x_in inside.y_in inside.z_in)

  -- the run of the grid cell that holds the cell stands in the work slice, and names the lowest covering shot
  pub run-there : Starts work cells cell (cell + 1)
  run-there = subst (λ (n : ℕ). Starts work n cell (cell + 1)) (sym all) (subst (λ (n : ℕ). Starts work (grid_cells job) n (n + 1)) (sym is) (holds-starts job work holds (holding job.field job.grid i j k) 1 known))

  pub run-names-lowest : {run : List ℕ} → run ≡ between work cells cell (cell + 1) → first_covering job.edge job.coords run i j k ≡ lowest_covering job.edge job.coords i j k
  run-names-lowest e =
      ap (λ l. first_covering job.edge job.coords l i j k) (e ∙ ap (λ n. between work n cell (cell + 1)) all ∙ ap (λ n. between work (grid_cells job) n (n + 1)) is ∙ holds-run job work holds (holding job.field job.grid i j k) known)
      ∙ holding-names holds.valid i j k inside.x_in inside.y_in inside.z_in
