-- Condition 3: what the totals, the corner points and the listing of an accepted list have to do with each other.
-- The statements speak of the calls: `measure` promises a `MeasureCall` and `list` a `ListCall`, of the answer and of the lent slices at
-- exit. A call accepts a list if its answer is an `Ok`. In the order of docs/SCOPE.md:
-- for every list that either call accepts, the totals are the cell counts and the corner sums, the corner count is the number of
-- lattice points with a nonzero weight, and the work slice holds the index; for every list that `list` accepts, the first 7 bytes for each
-- corner hold each corner point once, with its pattern, in rising order, and nothing else, and the corner sums from these bytes alone are
-- the same figures; and for every two such lists, these bytes are the same exactly when the lists cover the same cells. What follows at
-- the end says what edge and inner length are together, and what does not matter: the grid, the order, repeats.
use mathlib.Core.Path.{◌≡◌, sym, ◌∙◌, ap, ap₂, subst}
use mathlib.Core.Logic.{◌↔◌}
use mathlib.Core.List.{List, ◌++◌}
use Prim.Native.Nat.{ℕ, ◌+◌, ◌*◌}
use lib.Dec.{T}
use lib.IntN.{nat_abs, ◌+ℤ◌}
use lib.ListN.{length, take, drop}
use lib.Seq.{take_at}
use Rattle.job.specs.Job.{with_grid, Job}
use Rattle.lattice.specs.Cells.{Cells, Within, length_by, either_edge}
use Rattle.lattice.specs.Figures.{Figure, EdgeLength, InnerLength, term}
use Rattle.lattice.specs.Shots.{Shot, covers}
use Rattle.lattice.specs.Listing.{corners, listing, corner_sum, SameBytes}
use Rattle.lattice_sums.specs.CornerSums.{value, sums_of}
use Rattle.lattice_sums.specs.declared.sums.Totals.{Totals}
use Rattle.ground.proofs.Bools.{bool-ext}
use Rattle.lattice.proofs.LengthLaws.{either-length}
use Rattle.lattice.proofs.Agreement as agreement
use Rattle.lattice.proofs.SameSolid.{same-corners}
use Rattle.lattice_sums.proofs.CornerSumLaws.{sum_by, sums-whole}
use Rattle.job.proofs.Conditions.{valid-within}
use Rattle.job.proofs.Shots.{any_at, at-any}
use Rattle.grid.specs.Grid.{Holds}
use Rattle.measure_intake.specs.Intake.{solid, MeasureCall}
use Rattle.measure.specs.Answers.{ListCall}
use Rattle.measure.specs.Agreement.{Agrees, Lists, SameCells, Among}
use Rattle.measure.proofs.AnswerLaws.{totals-corners}
use Rattle.measure.proofs.AcceptedLaws.{Accepted, measure-accepted, list-accepted, list-stored}
use Rattle.std.specs.Prelude.{Ok}

-- ---- 1. totals = cell counts = corner sums, and the corner count = the number of corner points
module _ {job : Job} {work' : List ℕ} {t : Totals} (a : Accepted job t work') where
  open job use {field as F}

  within : Within F (solid job)
  within = valid-within a.holds-index.valid

  value-sums : (f : Figure) → value f t ≡ corner_sum (term f) (corners F (solid job))
  unfolding sums_of
  value-sums f =
      let vs = corners F (solid job) in
      ap (value f) a.totals-are ∙ sym ((sums-whole F (solid job) within).figure_is f) ∙ sum_by f (λ f. corner_sum (term f) vs) (length vs)

  count-corners : t.corners ≡ length (corners F (solid job))
  count-corners = totals-corners F (solid job) a.totals-are ∙ sym (agreement.count-is F (solid job) within)

  totals-agree : Agrees F (solid job) t
  totals-agree = record {
    counts = λ f. value-sums f ∙ agreement.corner-sums F (solid job) within f;
    sums = value-sums;
    corners_count = totals-corners F (solid job) a.totals-are;
    corners_listed = count-corners;
    outside_weighs_nothing = agreement.outside_weighs_nothing F (solid job) within;
  }

module _ {job : Job} {work work' : List ℕ} {t : Totals} (call : MeasureCall job work (Ok t) work') where
  open job use {field as F}

  pub measure-agrees : Agrees F (solid job) t
  measure-agrees = totals-agree (measure-accepted call)

  pub measure-holds : Holds job work'
  measure-holds = (measure-accepted call).holds-index

module _ {job : Job} {work buffer work' buffer' : List ℕ} {t : Totals} (call : ListCall job work buffer (Ok t) work' buffer') where
  open job use {field as F}

  pub list-agrees : Agrees F (solid job) t
  list-agrees = totals-agree (list-accepted call)

  pub list-holds : Holds job work'
  list-holds = (list-accepted call).holds-index

  -- ---- 2. the listing bytes: the buffer's first bytes at exit, 7 times the corner count of them; the rest of the buffer keeps its values
  abbrev pub listing_bytes : List ℕ
  listing_bytes = take (7 * t.corners) buffer'

  listing-long : length (listing F (solid job)) ≡ 7 * t.corners
  listing-long = agreement.listing-length F (solid job) (within (list-accepted call)) ∙ ap (λ n. 7 * n) (sym list-agrees.corners_count)

  pub bytes-are : listing_bytes ≡ listing F (solid job)
  bytes-are = ap (take (7 * t.corners)) (list-stored call) ∙ take_at (listing F (solid job)) (drop (7 * t.corners) buffer) (7 * t.corners) listing-long

  pub rest-kept : buffer' ≡ listing_bytes ++ drop (7 * t.corners) buffer
  rest-kept = list-stored call ∙ ap (λ l. l ++ drop (7 * t.corners) buffer) (sym bytes-are)

  pub list-lists : Lists F (solid job) t listing_bytes
  list-lists =
      let s : Cells = solid job in
      let w = within (list-accepted call) in
      rw bytes-are
      (record {
        exactly = agreement.listed-exactly F s w;
        rising = agreement.listed-rising F s w;
        sums = λ f. agreement.listed-sums F s w f ∙ sym (list-agrees.counts f);
      })

-- ---- 3. two lists that `list` accepts, whatever their fields, edges, grids and orders: the same bytes exactly when they cover the same cells
module _ {job : Job} {work buffer work' buffer' : List ℕ} {t : Totals} (one : ListCall job work buffer (Ok t) work' buffer')
    {job₂ : Job} {work₂ buffer₂ work₂' buffer₂' : List ℕ} {t₂ : Totals} (two : ListCall job₂ work₂ buffer₂ (Ok t₂) work₂' buffer₂') where
  open job use {field as F}

  pub same_bytes : SameBytes (take (7 * t.corners) buffer') (take (7 * t₂.corners) buffer₂') ↔ SameCells (solid job) (solid job₂)
  same_bytes = rw (bytes-are one, bytes-are two)
      (agreement.same-listing F job₂.field (solid job) (solid job₂) (within (list-accepted one)) (within (list-accepted two)))

-- ---- corollaries: edge and inner length together are the length by a count that takes one and three covered cells alike
pub lengths-together : {F : ℕ} {s : Cells} {t : Totals} → Agrees F s t → t.edge + t.inner ≡ length_by either_edge F s
lengths-together {F} {s} a = ap nat_abs (ap₂ ◌+ℤ◌ (a.counts EdgeLength) (a.counts InnerLength)) ∙ sym (either-length F s)

-- ---- lists that cover the same cells, in the same field or another, have the same totals
module _ {job : Job} {work' : List ℕ} {t : Totals} (one : Accepted job t work')
    {job₂ : Job} {work₂' : List ℕ} {t₂ : Totals} (two : Accepted job₂ t₂ work₂')
    (same : SameCells (solid job) (solid job₂)) where
  open job use {field as F}

  corners-same : corners F (solid job) ≡ corners job₂.field (solid job₂)
  corners-same = same-corners F job₂.field (solid job) (solid job₂) (within one) (within two) same

  pub figure-same : (f : Figure) → value f t ≡ value f t₂
  figure-same f = value-sums one f ∙ ap (corner_sum (term f)) corners-same ∙ sym (value-sums two f)

  pub count_same : t.corners ≡ t₂.corners
  count_same = count-corners one ∙ ap length corners-same ∙ sym (count-corners two)

-- the grid does not matter: a list, in any two grids that a call accepts, has the same totals and corner count, and the same listing bytes
module _ {job : Job} {work work' : List ℕ} {t : Totals} (one : MeasureCall job work (Ok t) work')
    {G₂ : ℕ} {work₂ work₂' : List ℕ} {t₂ : Totals} (two : MeasureCall (with_grid G₂ job) work₂ (Ok t₂) work₂') where
  pub measured-any-grid : t ≡ t₂
  measured-any-grid = (measure-accepted one).totals-are ∙ sym (measure-accepted two).totals-are

module _ {job : Job} {work buffer work' buffer' : List ℕ} {t : Totals} (one : ListCall job work buffer (Ok t) work' buffer')
    {G₂ : ℕ} {work₂ buffer₂ work₂' buffer₂' : List ℕ} {t₂ : Totals} (two : ListCall (with_grid G₂ job) work₂ buffer₂ (Ok t₂) work₂' buffer₂') where
  pub totals-any-grid : t ≡ t₂
  totals-any-grid = (list-accepted one).totals-are ∙ sym (list-accepted two).totals-are

  pub listing-any-grid : take (7 * t.corners) buffer' ≡ take (7 * t₂.corners) buffer₂'
  listing-any-grid = bytes-are one ∙ sym (bytes-are two)

-- neither order nor repeats change the cells: two lists cover the same cells if each has every shot of the other
covers-among : (one two : Job) → Among one two → (i j k : ℕ) → T (solid one i j k) → T (solid two i j k)
covers-among one two h i j k t =
    let r = any_at one.edge (λ t. covers t i j k) one.coords t in
    let m = h r.0 r.1 in
    at-any two.edge (λ t. covers t i j k) two.coords m.0 m.1 (subst (λ (t : Shot). T (covers t i j k)) m.2 r.2)

pub same-shots : (one two : Job) → Among one two → Among two one → SameCells (solid one) (solid two)
same-shots one two h h₂ i j k = bool-ext (solid one i j k) (solid two i j k) (covers-among one two h i j k) (covers-among two one h₂ i j k)
