-- The blocks of the grid cells fill the field: what is counted over all of them is counted over the field. And the run of a grid cell credits
-- the cells of its block as the list does.
use mathlib.Core.Path.{◌≡◌, refl, sym, ap, ◌∙◌}
use mathlib.Core.Bool.{Bool, true, false}
use mathlib.Core.List.{List, [], ◌∷◌}
use Prim.Native.Nat.{ℕ, suc, ◌+◌, ◌-◌, ◌*◌, ◌/◌, ◌%◌, ◌≤◌, ◌<◌}
use native.Mathlib.Nat.{zero-add, add-mul, one-mul, mul-le-mul, mul-le-mul_right, mod-lt, div-add-mod', div-lt_iff_lt-mul}
use native.Mathlib.Numerals.{add-one}
use native.Mathlib.Omega.{arith}
use lib.ListN.{length, get_or, replicate, length-replicate, get_or-replicate, get_or-eq_default}
use lib.Dec.{ltb}
use borrow.Author.Tests.{ltb-true, ltb-false}
use Rattle.ground.specs.Sums.{total}
use Rattle.lattice.specs.Cells.{Cells, volume}
use Rattle.ground.specs.Numbers.{bit}
use Rattle.job.specs.Job.{Job, shot_count, Valid}
use Rattle.grid.specs.Grid.{grid_cells, run_of}
use Rattle.ground.proofs.TotalLaws.{total-agree, total-most, total-up, total-front, total-swap, total-digits}
use Rattle.ground.proofs.JoinLaws.{join-ext, singles-length}
use Rattle.ground.proofs.Digits.{digit-high, digit_low}
use Rattle.ground.proofs.Bits.{bit-most}
use Rattle.grid.proofs.ShotLaws.{width-times}
use Rattle.grid_cover.specs.Cover.{first_covering, names, lowest_covering}
use Rattle.grid_cover.proofs.CoverRuns.{Near, run-names}
use Rattle.crediting_carving.specs.Blocks.{along, count_in, size_of, added, RoomFor, Small, InSpan, InBlock, credits_in}
use Rattle.crediting_carving.proofs.BlockLaws.{count-agree, count_most}
use Rattle.crediting_carving.proofs.AddedLaws.{added-keeps, added_none, added-agree, added_more, room-added}
use Rattle.crediting_carving.specs.declared.blocks.Block.{Block}
use Rattle.crediting.specs.Credits.{credited_to, credit_of, credits_of}
use Rattle.crediting.specs.GridBlocks.{interval_of, block_of, cell_credits}

-- ---- an interval

along-interval : (s g : ℕ) (f : ℕ → ℕ) → along (interval_of s g) f ≡ total s (λ i. f (g * s + i))
along-interval s g f =
    let width : (g + 1) * s - g * s ≡ s = omega (arith, add-mul g 1 s, one-mul s) in
    rw width

-- all intervals
along-intervals : (G s : ℕ) (f : ℕ → ℕ) → total G (λ g. along (interval_of s g) f) ≡ total (G * s) f
along-intervals G s f = total-agree G _ _ (λ g l. along-interval s g f) ∙ sym (total-digits G s f)

-- a sum over grid cells and one over the unit cells of an interval, in either order
total-along : (G : ℕ) (s g : ℕ) (f : ℕ → ℕ → ℕ) → total G (λ h. along (interval_of s g) (λ i. f h i)) ≡ along (interval_of s g) (λ i. total G (λ h. f h i))
total-along G s g f = total-swap G ((g + 1) * s - g * s) (λ h i. f h (g * s + i))

-- ---- all grid cells

module _ (G s : ℕ) (f : ℕ → ℕ → ℕ → ℕ) where
  -- the third axis, then the second, then the first
  on-z : (gx gy : ℕ) → total G (λ gz. along (interval_of s gx) (λ i. along (interval_of s gy) (λ j. along (interval_of s gz) (λ k. f i j k))))
      ≡ along (interval_of s gx) (λ i. along (interval_of s gy) (λ j. total (G * s) (λ k. f i j k)))
  on-z gx gy =
      total-along G s gx (λ gz i. along (interval_of s gy) (λ j. along (interval_of s gz) (λ k. f i j k)))
      ∙ total-agree ((gx + 1) * s - gx * s) _ _ (λ i l.
      total-along G s gy (λ gz j. along (interval_of s gz) (λ k. f (gx * s + i) j k))
      ∙ total-agree ((gy + 1) * s - gy * s) _ _ (λ j l. along-intervals G s (λ k. f (gx * s + i) (gy * s + j) k)))

  on-y : (gx : ℕ) → total G (λ gy. along (interval_of s gx) (λ i. along (interval_of s gy) (λ j. total (G * s) (λ k. f i j k))))
      ≡ along (interval_of s gx) (λ i. total (G * s) (λ j. total (G * s) (λ k. f i j k)))
  on-y gx =
      total-along G s gx (λ gy i. along (interval_of s gy) (λ j. total (G * s) (λ k. f i j k)))
      ∙ total-agree ((gx + 1) * s - gx * s) _ _ (λ i l. along-intervals G s (λ j. total (G * s) (λ k. f (gx * s + i) j k)))

  all-cells : total G (λ gx. total G (λ gy. total G (λ gz. along (interval_of s gx) (λ i. along (interval_of s gy) (λ j. along (interval_of s gz) (λ k. f i j k))))))
      ≡ total (G * s) (λ i. total (G * s) (λ j. total (G * s) (λ k. f i j k)))
  all-cells =
      total-agree G _ _ (λ gx l. total-agree G _ _ (λ gy m. on-z gx gy) ∙ on-y gx)
      ∙ along-intervals G s (λ i. total (G * s) (λ j. total (G * s) (λ k. f i j k)))

-- ---- the digits of a grid cell

module _ (G cell : ℕ) (least : 1 ≤ G) where
  pub digit-x : cell < G * G * G → cell / G / G < G
  digit-x h = (div-lt_iff_lt-mul {k = G} {x = cell / G} {y = G} least).1 ((div-lt_iff_lt-mul {k = G} {x = cell} {y = G * G} least).1 h)

  pub digit-y : cell / G % G < G
  digit-y = mod-lt (cell / G) least

  pub digit-z : cell % G < G
  digit-z = mod-lt cell least

  digits : (cell / G / G * G + cell / G % G) * G + cell % G ≡ cell
  digits = rw (div-add-mod' (cell / G) G) (div-add-mod' cell G)

pub interval-in : (G s g : ℕ) → g < G → G * s ≤ 1024 → (g + 1) * s ≤ 1024
interval-in G s g h k = omega (arith, mul-le-mul_right {m = g + 1} {n = G} s (omega arith))

-- ---- the field

-- what is counted in the blocks of all grid cells is counted in the field
module _ {job : Job} (v : Valid job) where
  open job use {field as F, edge as E, grid as G, coords}

  pub blocks-fill : (p : Cells) → total (grid_cells job) (λ cell. count_in (block_of F G cell) p) ≡ volume F p
  unfolding count_in volume
  blocks-fill p =
      total-digits (G * G) G (λ cell. count_in (block_of F G cell) p)
      ∙ (total-digits G G (λ a. total G (λ gz. count_in (block_of F G (a * G + gz)) p))
      ∙ (total-agree G _ _ (λ gx l. total-agree G _ _ (λ gy m. total-agree G _ _ (λ gz n. rw (digit-high G (gx * G + gy) gz n, digit_low G (gx * G + gy) gz n, digit-high G gx gy m, digit_low G gx gy m))))
      ∙ (all-cells G (F / G) (λ i j k. bit (p i j k)) ∙ rw (width-times v))))

  field-few : (p : Cells) → volume F p ≤ 1073741824
  unfolding volume
  field-few p =
      omega (arith, total-most F (F * (F * 1)) (λ i. total F (λ j. total F (λ k. bit (p i j k)))) (λ i l. total-most F (F * 1) (λ j. total F (λ k. bit (p i j k))) (λ j m. total-most F 1 (λ k. bit (p i j k)) (λ k n. bit-most (p i j k)))), cube)
    where
      cube : F * (F * (F * 1)) ≤ 1073741824
      cube = let line : F * 1 ≤ 1024 = omega (arith, v.field_most) in mul-le-mul v.field_most (mul-le-mul v.field_most line)

  module _ (cell : ℕ) (h : cell < grid_cells job) where
    pub block-small : Small (block_of F G cell)
    block-small =
        let most : G * (F / G) ≤ 1024 = omega (arith, width-times v, v.field_most) in
        record {
          x_in = interval-in G (F / G) (cell / G / G) (digit-x G cell v.grid_least h) most;
          y_in = interval-in G (F / G) (cell / G % G) (digit-y G cell v.grid_least) most;
          z_in = interval-in G (F / G) (cell % G) (digit-z G cell v.grid_least) most;
        }

    -- the run of a grid cell credits its unit cells as the list does
    near : (g i : ℕ) → InSpan (interval_of (F / G) g) i → Near (F / G) g i
    near g i l = record { low = omega (arith, l.low); high = omega (arith, l.high) }

    run-lowest : (i j k : ℕ) → InBlock (block_of F G cell) i j k → first_covering E coords (run_of job cell) i j k ≡ lowest_covering E coords i j k
    run-lowest i j k l =
        ap (λ (n : ℕ). first_covering E coords (run_of job n) i j k) (sym (digits G cell v.grid_least))
        ∙ run-names job (cell / G / G) (cell / G % G) (cell % G) (digit-y G cell v.grid_least) (digit-z G cell v.grid_least) i j k (near (cell / G / G) i l.x) (near (cell / G % G) j l.y) (near (cell % G) k l.z)

    run-credits : (s : ℕ) → credits_in E coords (run_of job cell) (block_of F G cell) s ≡ cell_credits job cell s
    unfolding credits_in cell_credits
    run-credits s = count-agree (block_of F G cell) _ _ λ i j k l. ap (λ o. names o s) (run-lowest i j k l)

    pub cell-credited : {run : List ℕ} → run ≡ run_of job cell → {b : Block} → b ≡ block_of F G cell → (l : List ℕ) {m : List ℕ} → m ≡ added l (credits_in E coords run b) → m ≡ added l (cell_credits job cell)
    cell-credited r-is b-is l e = e ∙ rw (r-is, b-is) (added-agree l _ (cell_credits job cell) run-credits)

-- ---- a place a shot
pub credits-long : (F E : ℕ) (coords : List ℕ) → length (credits_of F E coords) ≡ shot_count coords
unfolding credits_of
credits-long F E coords = singles-length (credit_of F E coords) (shot_count coords)

-- ---- grid cell by grid cell, from 0 at every place

-- the credits of the first grid cells
abbrev pub credits_to : Job → ℕ → ℕ → ℕ
credits_to job cells s = total cells λ cell. cell_credits job cell s

none-at : (n s : ℕ) → get_or {A = ℕ} (replicate n 0) s 0 ≡ 0
none-at n s = one (ltb s n) refl
  where
    one : (b : Bool) → ltb s n ≡ b → get_or {A = ℕ} (replicate n 0) s 0 ≡ 0
    one true e = get_or-replicate n s 0 0 (ltb-true s n e)
    one false e = get_or-eq_default (replicate n 0) 0 {n = s} (omega (arith, length-replicate {A = ℕ} n 0, ltb-false s n e))

module _ {job : Job} (v : Valid job) (n : ℕ) where
  open job use {field as F, edge as E, grid as G, coords}

  pub cells-long : (cell : ℕ) {l : List ℕ} → l ≡ added (replicate n 0) (credits_to job cell) → length l ≡ n
  cells-long cell e = added-keeps (replicate n 0) (credits_to job cell) e ∙ length-replicate n 0

  pub cells-none : replicate n 0 ≡ added (replicate n 0) (credits_to job 0)
  unfolding total
  cells-none = added_none (replicate n 0) _ λ s. refl

  pub cells-next : (cell : ℕ) (l m : List ℕ) → l ≡ added (replicate n 0) (credits_to job cell) → m ≡ added l (cell_credits job cell) → m ≡ added (replicate n 0) (credits_to job (cell + 1))
  unfolding total
  cells-next cell l m e k = rw (k, e, add-one cell) (added_more (replicate n 0) _ _)

  -- the credits so far and all cells of the next block are not more than the field has
  credits-few : (cell : ℕ) → cell < grid_cells job → (s : ℕ) → credits_to job cell s + size_of (block_of F G cell) ≤ 1073741824
  unfolding cell_credits total
  credits-few cell h s =
      let all : suc cell + (grid_cells job - suc cell) ≡ grid_cells job = omega arith in
      omega (arith, total-up cell _ _ (λ c. count_most (block_of F G c) (credited_to E coords s)), rw all at (total-front (λ c. size_of (block_of F G c)) (suc cell) (grid_cells job - suc cell)), blocks-fill v (λ i j k. true), field-few v (λ i j k. true))

  pub cell_room : (cell : ℕ) → cell < grid_cells job → (l : List ℕ) → l ≡ added (replicate n 0) (credits_to job cell) → RoomFor (size_of (block_of F G cell)) l
  cell_room cell h l e =
      rw e (room-added 1073741824 (size_of (block_of F G cell)) (replicate n 0) (credits_to job cell) (credits-few cell h) (record { at = λ s. omega (arith, none-at n s) }))

  pub cells-all : n ≡ shot_count coords → (l : List ℕ) → l ≡ added (replicate n 0) (credits_to job (grid_cells job)) → l ≡ credits_of F E coords
  unfolding added credits_of credit_of cell_credits
  cells-all is l e =
      e ∙ rw (length-replicate {A = ℕ} n 0, is) (join-ext (shot_count coords) λ s. ap (λ (c : ℕ). c ∷ []) (rw (none-at (shot_count coords) s) (zero-add _ ∙ blocks-fill v (credited_to E coords s))))
