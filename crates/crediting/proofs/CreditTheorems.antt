-- What the credits of an accepted list are good for: docs/SCOPE.md, 'Credits'. The statements speak of the call by what it promises, a
-- `CreditCall`, and of the credit slice at exit. In order: each shot has its credit and the places past the shots are as they were; the
-- credits sum to the volume; a shot whose cells earlier shots cover has none, a repeat for one; another order may move credit but not the
-- sum; and the shots without credit may all be left out: the others are a valid list and cover the same cells, and so have the same totals
-- and the same listing. Assumes nothing.
use mathlib.Core.Path.{◌≡◌, refl, sym, ap, ◌∙◌, subst, fun_ext}
use mathlib.Core.Bool.{false, true≢false}
use Rattle.std.specs.Prelude.{Option, None, Some, is_some}
use mathlib.Core.List.{List}
use Prim.Native.Nat.{ℕ, ◌*◌, ◌≤◌, ◌<◌}
use native.Mathlib.Omega.{arith}
use lib.Dec.{T}
use lib.ListN.{length, get_or, take, drop, get_or-append}
use lib.Seq.{drop_at}
use borrow.Author.Tests.{eq-eqb, ne_eqb}
use Rattle.ground.specs.Sums.{total}
use Rattle.lattice.specs.Cells.{Cells, volume}
use Rattle.ground.specs.Numbers.{bit}
use Rattle.lattice.specs.Shots.{Shot, covers, InField}
use Rattle.lattice.specs.Listing.{listing}
use Rattle.lattice_sums.specs.CornerSums.{totals_of}
use Rattle.lattice_sums.specs.declared.sums.Totals.{Totals}
use Rattle.ground.proofs.Bools.{bool-ext, is_true, truth}
use Rattle.job.specs.Job.{with_grid, Job, job_of, shot, shot_count, place_of, Valid}
use Rattle.job.proofs.Conditions.{valid-within}
use Rattle.job.proofs.Shots.{any_at, at-any, stay-at, stay_all}
use Rattle.grid.specs.Grid.{index_of, Holds}
use Rattle.ground.proofs.TotalLaws.{total-agree, total-swap, total-none, total-none-at, count-one}
use Rattle.ground.proofs.JoinLaws.{singles-at}
use Rattle.ground.proofs.Bits.{bit-none}
use Rattle.grid_cover.specs.Cover.{names, lowest_covering}
use Rattle.grid_cover.proofs.CoverRuns.{lowest-covers}
use Rattle.grid_cover.proofs.LowestLaws.{lowest-shot, lowest-covering, lowest-least}
use Rattle.measure_intake.specs.Intake.{solid, MeasureAccepts}
use Rattle.crediting.proofs.Refused.{credit-decides, credit-work-done}
use Rattle.crediting.proofs.FieldLaws.{credits-long}
use Rattle.measure.specs.Answers.{ListCall}
use Rattle.measure.specs.Agreement.{SameCells, Among}
use Rattle.measure.proofs.AcceptedLaws.{list-accepted}
use Rattle.measure.proofs.Condition3.{bytes-are, same-shots}
use Rattle.crediting.specs.Credits.{credited_to, credit_of, credits_of, credits_after, CreditCall}
use Rattle.crediting.specs.LeavingOut.{Hidden, KeepsCredited}
use Rattle.buffer.specs.Wrote.{in_front}
use Rattle.refusals.specs.Tests.{if_accepted}
use Rattle.std.specs.Prelude.{Ok}

-- ---- one cell

-- a covered cell is credited to one shot, an uncovered one to none
cell-named : (job : Job) (i j k : ℕ) → total (shot_count job.coords) (λ s. bit (credited_to job.edge job.coords s i j k)) ≡ bit (solid job i j k)
cell-named job i j k = one (lowest_covering job.edge job.coords i j k) refl ∙ ap bit (lowest-covers job.edge job.coords i j k)
  where
    one : (o : Option ℕ) → lowest_covering job.edge job.coords i j k ≡ o → total (shot_count job.coords) (λ s. bit (names (lowest_covering job.edge job.coords i j k) s)) ≡ bit (is_some (lowest_covering job.edge job.coords i j k))
    one None e = rw e (total-none (shot_count job.coords) (λ s. 0) (λ s l. refl))
    one (Some t) e = rw e (count-one t (shot_count job.coords) (lowest-shot job.edge job.coords i j k t e))

-- ---- one shot

-- a solid without cells in the field
none-in-field : (F : ℕ) (p : Cells) → volume F p ≡ 0 → (i j k : ℕ) → i < F → j < F → k < F → p i j k ≡ false
unfolding volume
none-in-field F p e i j k hi hj hk = bit-none (p i j k) (total-none-at F (λ k. bit (p i j k)) (total-none-at F (λ j. total F (λ k. bit (p i j k))) (total-none-at F (λ i. total F (λ j. total F (λ k. bit (p i j k)))) e i hi) j hj) k hk)

none_at_all : (F : ℕ) (p : Cells) → ((i j k : ℕ) → p i j k ≡ false) → volume F p ≡ 0
unfolding volume
none_at_all F p h = total-none F _ λ i l. total-none F _ λ j m. total-none F _ λ k n. ap bit (h i j k)

-- a shot whose cells earlier shots cover is the lowest covering shot of none
hidden-credited : (job : Job) (s : ℕ) → Hidden job s → credit_of job.field job.edge job.coords s ≡ 0
unfolding credit_of
hidden-credited job s hidden = none_at_all job.field (credited_to job.edge job.coords s) λ i j k. one i j k (lowest_covering job.edge job.coords i j k) refl
  where
    one : (i j k : ℕ) (o : Option ℕ) → lowest_covering job.edge job.coords i j k ≡ o → names o s ≡ false
    one i j k None e = refl
    one i j k (Some r) e = ne_eqb r s λ is.
        let low : lowest_covering job.edge job.coords i j k ≡ Some s = e ∙ ap Some is in
        let h = hidden i j k (lowest-covering job.edge job.coords i j k s low) in
        true≢false (sym h.2 ∙ lowest-least job.edge job.coords i j k s low h.0 h.1)

-- ---- the credits of an accepted list

module _ {job : Job} {work credits work' credits' : List ℕ} (call : CreditCall job work credits (Ok tt) work' credits') where
  open job use {field as F, edge as E, grid as G, coords}

  passed : MeasureAccepts job (length work)
  passed = ((credit-decides job (length work) (length credits)).accepted.0 (sym call.answer)).0

  -- the list is valid, and the work slice holds the index
  pub credit-holds : Holds job work'
  credit-holds = record { valid = passed.0; rest = drop (length (index_of job)) work; is = credit-work-done call passed }

  pub credits-are : credits' ≡ in_front (credits_of F E coords) credits
  unfolding credits_after
  credits-are = call.credited ∙ ap (λ c. if_accepted c (λ r. credits) (in_front (credits_of F E coords) credits)) (sym call.answer)

  -- a place for each shot has its credit, and later places keep their values
  pub credit-at : (s : ℕ) → s < shot_count coords → get_or credits' s 0 ≡ credit_of F E coords s
  unfolding credits_of
  credit-at s h =
      ap (λ (l : List ℕ). get_or l s 0) credits-are
      ∙ (get_or-append (credits_of F E coords) (drop (length (credits_of F E coords)) credits) 0 s (omega (arith, h, credits-long F E coords))
      ∙ singles-at (credit_of F E coords) (shot_count coords) s h)

  pub credits-kept : drop (shot_count coords) credits' ≡ drop (shot_count coords) credits
  credits-kept =
      ap (drop (shot_count coords)) credits-are
      ∙ (drop_at (credits_of F E coords) (drop (length (credits_of F E coords)) credits) (shot_count coords) (credits-long F E coords)
      ∙ ap (λ n. drop n credits) (credits-long F E coords))

  -- they sum to the volume
  pub credits-sum : total (shot_count coords) (λ s. get_or credits' s 0) ≡ volume F (solid job)
  unfolding credit_of volume
  credits-sum =
      total-agree n _ _ credit-at
      ∙ (total-swap n F (λ s i. total F (λ j. total F (λ k. bit (credited_to E coords s i j k))))
      ∙ total-agree F _ _ (λ i hi. total-swap n F (λ s j. total F (λ k. bit (credited_to E coords s i j k)))
      ∙ total-agree F _ _ (λ j hj. total-swap n F (λ s k. bit (credited_to E coords s i j k))
      ∙ total-agree F _ _ (λ k hk. cell-named job i j k))))
    where
      n : ℕ
      n = shot_count coords

  -- a shot whose cells earlier shots cover has none, so a repeat of an earlier shot has none
  pub hidden-none : (s : ℕ) → s < shot_count coords → Hidden job s → get_or credits' s 0 ≡ 0
  hidden-none s h hidden = credit-at s h ∙ hidden-credited job s hidden

  pub repeat-none : (s t : ℕ) → s < shot_count coords → t < s → shot job t ≡ shot job s → get_or credits' s 0 ≡ 0
  repeat-none s t h l same = hidden-none s h λ i j k c. (t, l, ap (λ u. covers u i j k) same ∙ c)

  -- ---- leaving shots out: a list of shots of this one that has each with credit covers the same cells
  module _ {others : List ℕ} (keeps : KeepsCredited credits' job (job_of F E G others)) where
    abbrev kept : Job
    kept = job_of F E G others

    -- the lowest covering shot of a cell has credit
    has-credit : (i j k s : ℕ) → T (solid job i j k) → lowest_covering E coords i j k ≡ Some s → get_or credits' s 0 ≡ 0 → ⊥
    unfolding credit_of
    has-credit i j k s t e zero-credit =
        let h : s < shot_count coords = lowest-shot E coords i j k s e in
        let in_field = valid-within credit-holds.valid i j k t in
        true≢false
        (sym (ap (λ o. names o s) e ∙ eq-eqb s s refl)
        ∙ none-in-field F (credited_to E coords s) (sym (credit-at s h) ∙ zero-credit) i j k in_field.0 in_field.1 in_field.2)

    kept-covers : (i j k : ℕ) → T (solid job i j k) → T (solid kept i j k)
    kept-covers i j k t = one (lowest_covering E coords i j k) refl
      where
        one : (o : Option ℕ) → lowest_covering E coords i j k ≡ o → T (solid kept i j k)
        one None e = absurd (true≢false (sym (is_true (solid job i j k) t) ∙ (sym (lowest-covers E coords i j k) ∙ ap is_some e)))
        one (Some s) e =
            let m = keeps.credited s (lowest-shot E coords i j k s e) (has-credit i j k s t e) in
            at-any E (λ t. covers t i j k) others m.0 m.1 (subst (λ (t : Shot). T (covers t i j k)) m.2 (truth (covers (shot job s) i j k) (lowest-covering E coords i j k s e)))

    covers_kept : (i j k : ℕ) → T (solid kept i j k) → T (solid job i j k)
    covers_kept i j k t =
        let r = any_at E (λ t. covers t i j k) others t in
        let m = keeps.from_first r.0 r.1 in
        at-any E (λ t. covers t i j k) coords m.0 m.1 (subst (λ (t : Shot). T (covers t i j k)) m.2 r.2)

    pub kept-cells : SameCells (solid job) (solid kept)
    kept-cells i j k = bool-ext (solid job i j k) (solid kept i j k) (kept-covers i j k) (covers_kept i j k)

    -- and is valid, if its numbers are whole shots and not too many
    pub kept-valid : length others ≡ place_of (shot_count others) → shot_count others ≤ 4096 → Valid kept
    kept-valid whole few =
        let v = credit-holds.valid in
        record {
          threes = omega (arith, whole);
          few = few;
          field_least = v.field_least;
          field_most = v.field_most;
          edge_least = v.edge_least;
          edge_most = v.edge_most;
          grid_least = v.grid_least;
          grid_most = v.grid_most;
          grid_divides = v.grid_divides;
          inside = stay_all F E others λ i l.
              let m = keeps.from_first i l in
              subst (λ (t : Shot). InField F t) (sym m.2) (stay-at F E coords v.inside m.0 m.1);
        }

    same-solid : solid job ≡ solid kept
    same-solid = fun_ext λ i. fun_ext λ j. fun_ext λ k. kept-cells i j k

    -- so they have the same totals and the same listing, whatever the grids
    module _ {G₁ : ℕ} {work₁ buffer₁ work₁' buffer₁' : List ℕ} {t₁ : Totals} (one : ListCall (with_grid G₁ job) work₁ buffer₁ (Ok t₁) work₁' buffer₁')
        {G₂ : ℕ} {work₂ buffer₂ work₂' buffer₂' : List ℕ} {t₂ : Totals} (two : ListCall (with_grid G₂ kept) work₂ buffer₂ (Ok t₂) work₂' buffer₂') where
      pub kept-totals : t₁ ≡ t₂
      kept-totals = (list-accepted one).totals-are ∙ ap (λ s. totals_of F s) same-solid ∙ sym (list-accepted two).totals-are

      pub kept-listing : take (7 * t₁.corners) buffer₁' ≡ take (7 * t₂.corners) buffer₂'
      kept-listing = bytes-are one ∙ ap (λ s. listing F s) same-solid ∙ sym (bytes-are two)

-- ---- two lists in one field

module _ {job : Job} {work credits work' credits' : List ℕ} (one : CreditCall job work credits (Ok tt) work' credits')
    {job₂ : Job} {work₂ credits₂ work₂' credits₂' : List ℕ} (two : CreditCall job₂ work₂ credits₂ (Ok tt) work₂' credits₂') where
  -- another order, or other repeats: each has every shot of the other
  pub reordered-sum : job.field ≡ job₂.field → Among job job₂ → Among job₂ job → total (shot_count job.coords) (λ s. get_or credits' s 0) ≡ total (shot_count job₂.coords) (λ s. get_or credits₂' s 0)
  reordered-sum f h h₂ =
      let same = same-shots job job₂ h h₂ in
      credits-sum one ∙ ap (volume job.field) (fun_ext λ i. fun_ext λ j. fun_ext λ k. same i j k) ∙ ap (λ n. volume n (solid job₂)) f ∙ sym (credits-sum two)

-- the grid does not matter
module _ {job : Job} {work credits work' credits' : List ℕ} (one : CreditCall job work credits (Ok tt) work' credits')
    {G₂ : ℕ} {work₂ credits₂ work₂' credits₂' : List ℕ} (two : CreditCall (with_grid G₂ job) work₂ credits₂ (Ok tt) work₂' credits₂') where
  pub credits-any-grid : (s : ℕ) → s < shot_count job.coords → get_or credits' s 0 ≡ get_or credits₂' s 0
  unfolding credit_of
  credits-any-grid s h = credit-at one s h ∙ sym (credit-at two s h)
