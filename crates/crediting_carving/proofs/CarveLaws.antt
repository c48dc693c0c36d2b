-- The credits of a block: nothing where no shot of the run meets it; else the cells that the first such shot covers of it are that shot's,
-- and those of the six parts around them are credited by the shots after it.
use mathlib.Core.Path.{◌≡◌, refl, sym, ap, ◌∙◌}
use mathlib.Core.Bool.{Bool, true, false, cond, not}
use Rattle.std.specs.Prelude.{Option, Some, None, unwrap_or}
use Rattle.std.specs.List.{position, position_or_len}
use mathlib.Core.List.{List, [], ◌∷◌}
use Prim.Native.Nat.{ℕ, zero, suc, ◌+◌, ◌-◌, ◌≤◌, ◌<◌}
use native.Mathlib.Numerals.{add-one, one-add}
use native.Mathlib.Omega.{arith}
use lib.Dec.{eqb, ltb}
use borrow.Author.Tests.{ltb-false}
use lib.ListN.{length, get_or, take, drop, length-drop}
use lib.Seq.{take_all}
use Rattle.ground.specs.Sums.{total}
use Rattle.ground.specs.FirstPlace.{FirstPlace}
use Rattle.ground.proofs.SearchLaws.{search-none, search-all, place_here, place-later}
use Rattle.ground.proofs.Conds.{cond-most}
use Rattle.job.specs.Job.{shot_count}
use Rattle.grid_cover.specs.Cover.{first_covering, names}
use Rattle.grid_cover.proofs.CoverLaws.{rest-next, rest_decides, rest-found, rest-none}
use Rattle.ground.proofs.TotalLaws.{total-agree, total-up, total-front}
use Rattle.crediting_carving.specs.declared.blocks.Block.{Block}
use Rattle.crediting_carving.specs.declared.blocks.Side.{Side}
use Rattle.crediting_carving.specs.declared.blocks.Side.TheVariants.{BeforeX, AfterX, BeforeY, AfterY, BeforeZ, AfterZ}
use Rattle.crediting_carving.specs.Blocks.{count_in, size_of, credits_in, added, only, RoomFor, InBlock, Small, Ordered, empty_block, meets_block, Meets, FirstMeeting, shared_block, place_of, part_of}
use Rattle.crediting_carving.proofs.BlockLaws.{Inside, count-agree, count-false, count_most, count-parts}
use Rattle.crediting_carving.proofs.MeetLaws.{missed-bare, met-shot, shared-inside, shared-ordered, shared-small, shared-covered, inside-in, part-bare, part_in, part_small}
use Rattle.crediting_carving.proofs.AddedLaws.{added-keeps, added_none, added-agree, added_more, room-less, room-added}

-- the credits of the first parts of a block around one in it
abbrev pub sides_in : ℕ → List ℕ → List ℕ → Block → Block → ℕ → ℕ → ℕ
sides_in E coords rest b c sides s = total sides λ side. credits_in E coords rest (part_of b c side) s

-- ---- the cells of a block that a shot covers

module _ (E : ℕ) (coords : List ℕ) (s : ℕ) (b : Block) where
  shared-less : Meets E coords s b → size_of (shared_block E coords s b) ≤ size_of b
  shared-less m = omega (arith, count-parts b (shared_block E coords s b) (shared-inside E coords s b m) (λ i j k. true))

  module _ {c : Block} (is : c ≡ shared_block E coords s b) where
    core-ordered : Meets E coords s b → Ordered c
    core-ordered m = rw is (shared-ordered E coords s b m)

    core-small : Meets E coords s b → Small b → Small c
    core-small m h = rw is (shared-small E coords s b m h)

    size-core : {n : ℕ} → n ≡ size_of c → n ≡ size_of (shared_block E coords s b)
    size-core k = k ∙ ap size_of is

    pub core-room : Meets E coords s b → {n : ℕ} → n ≡ size_of c → {l : List ℕ} → RoomFor (size_of b) l → RoomFor n l
    core-room m k r = room-less _ _ _ (omega (arith, size-core k, shared-less m)) r

  pub core-counted : Meets E coords s b → Small b → {c : Block} → c ≡ shared_block E coords s b → Ordered c × Small c
  core-counted m h is = (core-ordered is m, core-small is m h)

-- ---- the first place of a list that passes a test

module _ (f : ℕ → Bool) where
  first_place : (l : List ℕ) → FirstPlace (λ i. f (get_or l i 0)) 0 (length l) (position_or_len f l)
  first_place [] = search-all (search-none (omega arith)) (omega arith)
  first_place (a ∷ l) = one (f a) refl (first_place l)
    where
      one : (t : Bool) → f a ≡ t → FirstPlace (λ i. f (get_or l i 0)) 0 (length l) (position_or_len f l) → FirstPlace (λ i. f (get_or (a ∷ l) i 0)) 0 (suc (length l)) (cond (not t) (1 + position_or_len f l) 0)
      one true e h = place_here (omega arith) e
      one false e h = rw one-add (place-later (λ i. f (get_or (a ∷ l) i 0)) e h)

  pub position-place : (l : List ℕ) {o : Option ℕ} → o ≡ position f l → FirstPlace (λ i. f (get_or l i 0)) 0 (length l) (unwrap_or o (length l))
  position-place l is = rw is (go (ltb (position_or_len f l) (length l)) refl)
    where
      go : (t : Bool) → ltb (position_or_len f l) (length l) ≡ t → FirstPlace (λ i. f (get_or l i 0)) 0 (length l) (unwrap_or (cond t (Some (position_or_len f l)) None) (length l))
      go true e = first_place l
      go false e =
          let k : position_or_len f l ≡ length l = omega (arith, (first_place l).within, ltb-false (position_or_len f l) (length l) e) in
          rw k at (first_place l)

-- the sides in their order
pub side-place : (i : ℕ) (d : Side) → i < 6 → place_of (get_or (BeforeX ∷ AfterX ∷ BeforeY ∷ AfterY ∷ BeforeZ ∷ AfterZ ∷ []) i d) ≡ i
side-place zero d h = refl
side-place (suc zero) d h = refl
side-place (suc (suc zero)) d h = refl
side-place (suc (suc (suc zero))) d h = refl
side-place (suc (suc (suc (suc zero)))) d h = refl
side-place (suc (suc (suc (suc (suc zero))))) d h = refl
side-place (suc (suc (suc (suc (suc (suc i)))))) d h = absurd (omega arith)

-- ---- the first shot that meets a block

module _ (E : ℕ) (coords run : List ℕ) (b : Block) where
  -- whether the shot at a place of the run meets the block
  abbrev pub meets_at : ℕ → Bool
  meets_at n = meets_block E coords (get_or run n 0) b

  -- one with cells: no shot before the place that a search finds covers one of them
  pub first-meets : {t : Bool} → t ≡ empty_block b → t ≡ false → {n : ℕ} → FirstPlace meets_at 0 (length run) n → FirstMeeting E coords run b n
  first-meets is e {n} found = record {
    within = found.within;
    rest_decides = λ i j k l. rest_decides E coords run i j k n found.within (λ p h. missed-bare E coords (get_or run p 0) b i j k l (found.earlier p (omega arith) h));
    found = λ h. record { has_cells = sym is ∙ e; meets = found.passes h };
  }

  -- ---- no shot meets it

  pub none-credited : (n : ℕ) → FirstMeeting E coords run b n → n ≡ length run → (s : ℕ) → credits_in E coords run b s ≡ 0
  unfolding credits_in
  none-credited n found e s =
      count-agree b _ (λ i j k. false) (λ i j k l. ap (λ o. names o s) (sym (rest-none E coords run i j k n e (found.rest_decides i j k l))))
      ∙ count-false b

  -- ---- a shot meets it

  module _ (n : ℕ) (found : FirstMeeting E coords run b n) (h : n < length run) where
    -- the cells of the block that it covers
    abbrev core : Block
    core = shared_block E coords (get_or run n 0) b

    pub meeting : Meets E coords (get_or run n 0) b
    meeting = found.found h

    core-inside : Inside b core
    core-inside = shared-inside E coords (get_or run n 0) b meeting

    -- the cells that it covers are its own
    core-names : (i j k : ℕ) → InBlock core i j k → first_covering E coords run i j k ≡ Some (get_or run n 0)
    core-names i j k l =
        sym (rest-found E coords run i j k n h (shared-covered E coords (get_or run n 0) b (met-shot E coords (get_or run n 0) b meeting) i j k l) (found.rest_decides i j k (inside-in b core core-inside i j k l)))

    core-credits : (s : ℕ) → count_in core (λ i j k. names (first_covering E coords run i j k) s) ≡ only (get_or run n 0) (size_of core) s
    core-credits s =
        count-agree core _ (λ i j k. eqb (get_or run n 0) s) (λ i j k l. ap (λ o. names o s) (core-names i j k l))
        ∙ one (eqb (get_or run n 0) s)
      where
        one : (t : Bool) → count_in core (λ i j k. t) ≡ cond t (size_of core) 0
        one true = refl
        one false = count-false core

    -- the others are left to the shots after it
    part-credits : (side s : ℕ) → count_in (part_of b core side) (λ i j k. names (first_covering E coords run i j k) s) ≡ credits_in E coords (drop (n + 1) run) (part_of b core side) s
    unfolding credits_in
    part-credits side s =
        count-agree (part_of b core side) _ _ λ i j k l. ap (λ o. names o s)
        (sym (rest-next E coords run i j k n h (part-bare E coords (get_or run n 0) b i j k side l) (found.rest_decides i j k (part_in b core core-inside side i j k l))))

    -- the shot's own, and those of all six parts
    carved-all : (s : ℕ) → only (get_or run n 0) (size_of core) s + sides_in E coords (drop (n + 1) run) b core 6 s ≡ credits_in E coords run b s
    unfolding credits_in
    carved-all s =
        sym (count-parts b core core-inside (λ i j k. names (first_covering E coords run i j k) s)
        ∙ rw (core-credits s) (ap (λ (t : ℕ). only (get_or run n 0) (size_of core) s + t) (total-agree 6 _ _ λ side l. part-credits side s)))

    -- the shot's own, those of some parts and all cells of the next are not more than the block has
    carved-few : (side : ℕ) → side < 6 → (s : ℕ) → only (get_or run n 0) (size_of core) s + sides_in E coords (drop (n + 1) run) b core side s + size_of (part_of b core side) ≤ size_of b
    unfolding credits_in total
    carved-few side l s =
        let all : suc side + (5 - side) ≡ 6 = omega arith in
        omega (arith, rw all at (total-front (λ m. size_of (part_of b core m)) (suc side) (5 - side)), cond-most (eqb (get_or run n 0) s) (size_of core), total-up side _ _ (λ m. count_most (part_of b core m) (λ i j k. names (first_covering E coords (drop (n + 1) run) i j k) s)), count-parts b core core-inside (λ i j k. true))

    module _ {shot : ℕ} (shot-is : shot ≡ get_or run n 0) {c : Block} (c-is : c ≡ shared_block E coords shot b) {rest : List ℕ} (rest-is : rest ≡ drop (n + 1) run) where
      part-fits : (side : ℕ) → Small b → Small (part_of b c side)
      part-fits side h = rw (c-is, shot-is) (part_small b core core-inside side h)

      -- the credits before the call, with the shot's own, with those of some parts
      module _ (l₀ l₁ l₂ : List ℕ) (own : l₁ ≡ added l₀ (only shot (size_of (shared_block E coords shot b)))) where
        both : (side : ℕ) → l₂ ≡ added l₁ (sides_in E coords rest b c side) → l₂ ≡ added l₀ (λ s. only (get_or run n 0) (size_of core) s + sides_in E coords (drop (n + 1) run) b core side s)
        both side e = e ∙ rw (own, c-is, shot-is, rest-is) (added_more l₀ _ _)

        part_room : (side : ℕ) → side < 6 → l₂ ≡ added l₁ (sides_in E coords rest b c side) → RoomFor (size_of b) l₀ → RoomFor (size_of (part_of b c side)) l₂
        part_room side l e r =
            rw (both side e, c-is, shot-is) (room-added (size_of b) (size_of (part_of b core side)) l₀ _ (carved-few side l) r)

        -- so a part may be carved
        pub carve-ready : (side : ℕ) → side < 6 → l₂ ≡ added l₁ (sides_in E coords rest b c side) → {p : Block} → p ≡ part_of b c side → Small b × ((shot_count coords ≤ length l₀) × RoomFor (size_of b) l₀) → Small p × ((shot_count coords ≤ length l₂) × RoomFor (size_of p) l₂)
        carve-ready side l e is h =
            rw is
            (part-fits side h.0, (omega (arith, h.1.0, added-keeps l₀ _ own, added-keeps l₁ _ e), part_room side l e h.1.1))

        pub block-carved : l₂ ≡ added l₁ (sides_in E coords rest b c 6) → l₂ ≡ added l₀ (credits_in E coords run b)
        block-carved e = both 6 e ∙ added-agree l₀ _ (credits_in E coords run b) carved-all

-- the rest of a run, behind place n
pub rest_part : (run : List ℕ) (n : ℕ) → take (length run - n) (drop n run) ≡ drop n run
rest_part run n = take_all (length run - n) (drop n run) (omega (arith, length-drop n run))

pub rest-less : (run : List ℕ) (n : ℕ) {t : ℕ} → length run ≡ t → n < length run → length (take (length run - (n + 1)) (drop (n + 1) run)) < t
rest-less run n e h = omega (arith, ap length (rest_part run (n + 1)), length-drop (n + 1) run)

-- part by part
module _ (E : ℕ) (coords rest : List ℕ) (b c : Block) (l : List ℕ) where
  pub sides-none : l ≡ added l (sides_in E coords rest b c 0)
  unfolding total
  sides-none = added_none l _ λ s. refl

  pub sides-next : (side : ℕ) (l₂ l₃ : List ℕ) → l₂ ≡ added l (sides_in E coords rest b c side) → l₃ ≡ added l₂ (credits_in E coords rest (part_of b c side)) → l₃ ≡ added l (sides_in E coords rest b c (side + 1))
  unfolding total
  sides-next side l₂ l₃ e k = rw (k, e, add-one side) (added_more l _ _)
