-- What a search along a range finds, and the ends of boxes counted.
use mathlib.Core.Path.{◌≡◌, refl, sym, ◌∙◌, ap, subst}
use mathlib.Core.Logic.{◌≢◌}
use mathlib.Core.Bool.{Bool, true, false}
use mathlib.Core.List.{List, ◌++◌}
use Prim.Native.Nat.{ℕ, ◌+◌, ◌-◌, ◌*◌, ◌<◌, ◌≤◌}
use native.Mathlib.Omega.{arith}
use lib.Dec.{eqb}
use lib.ListN.{length, get_or, set, take, drop, length-set, length-append, length-drop, get_or-append}
use lib.Seq.{get_or-set_same, get_or-set_other}
use Rattle.std.proofs.lemmas.List.{drop-drop, get_or-drop, get_or-take, length-take-le}
use lib.Seq.{drop-append_seam}
use borrow.Author.Tests.{eqb-true, eqb-false}
use Rattle.std.proofs.Common.{Option, None, Some}
use Rattle.std.specs.Option.{MatchOption, unwrap_or}
use Rattle.ground.specs.FirstPlace.{FirstPlace}
use Rattle.lattice.specs.Boxes.{box_at}
use Rattle.sweep_order.specs.Order.{Given, EndsRow}

-- ---- the first place that passes
-- what `find` gives along a range, or else its end
pub place_found : (f : ℕ → Bool) (from to : ℕ) (r : Option ℕ) → from ≤ to
    → MatchOption r ((k : ℕ) → from ≤ k → k < to → f k ≡ false) (λ i. (from ≤ i) × (i < to) × (f i ≡ true) × ((k : ℕ) → from ≤ k → k < i → f k ≡ false))
    → FirstPlace f from to (unwrap_or r to)
place_found f from to None h m = record { onward = h; within = omega arith; earlier = m; passes = λ l. absurd (omega arith) }
place_found f from to (Some i) h m = record { onward = m.0; within = omega (arith, m.1); earlier = m.3; passes = λ l. m.2 }

-- ---- box after box
-- the numbers of the boxes from number i on
abbrev pub sixes_from : List ℕ → ℕ → ℕ → List ℕ
sixes_from boxes count i = drop (6 * i) (take (6 * count) boxes)

module _ (boxes : List ℕ) (count : ℕ) (there : 6 * count ≤ length boxes) (i : ℕ) where
  sixes-length : length (sixes_from boxes count i) ≡ 6 * count - 6 * i
  sixes-length = omega (arith, length-drop (6 * i) (take (6 * count) boxes), length-take-le (6 * count) boxes there)

  -- the next one
  module _ (a b : List ℕ) (e : sixes_from boxes count i ≡ a ++ b) (six : length a ≡ 6) where
    pub six-in : i < count
    six-in = omega (arith, sixes-length, ap length e, length-append a b)

    pub six_end : get_or a 1 0 ≡ (box_at boxes i).x_end
    six_end =
        sym (get_or-append a b 0 1 (omega arith))
        ∙ ap (λ l. get_or l 1 0) (sym e)
        ∙ get_or-drop (6 * i) (take (6 * count) boxes) 1 0
        ∙ get_or-take (6 * count) boxes (6 * i + 1) 0 (omega (arith, six-in))

    pub six-rest : b ≡ sixes_from boxes count (i + 1)
    six-rest =
        let k : 6 * i + 6 ≡ 6 * (i + 1) = omega arith in
        sym (drop-append_seam a b)
        ∙ ap (λ n. drop n (a ++ b)) six
        ∙ ap (drop 6) (sym e)
        ∙ drop-drop 6 (6 * i) (take (6 * count) boxes)
        ∙ ap (λ n. drop n (take (6 * count) boxes)) k

-- ---- the ends counted
module _ (field : ℕ) (boxes : List ℕ) (count : ℕ) (g : Given field boxes count) where
  pub ends_asked : (i : ℕ) (row : List ℕ) → i < count → EndsRow boxes i row → ((box_at boxes i).x_end < length row) × (get_or row (box_at boxes i).x_end 0 ≤ 4096)
  ends_asked i row l r = (omega (arith, r.size, (g.boxes_in.inside i l).x_in, g.field_most), omega (arith, r.few (box_at boxes i).x_end, g.few))

  pub ends_more : (i : ℕ) (row row' : List ℕ) → i < count → EndsRow boxes i row → row' ≡ set row (box_at boxes i).x_end (get_or row (box_at boxes i).x_end 0 + 1) → EndsRow boxes (i + 1) row'
  ends_more i row row' l r e = rw e (record {
    size = length-set row p v ∙ r.size;
    few = λ q. few q (eqb q p) refl;
    no_end = λ q z j k. no_end q z j k (eqb q p) refl (eqb j i) refl;
  })
    where
      p : ℕ
      p = (box_at boxes i).x_end

      v : ℕ
      v = get_or row p 0 + 1

      at : get_or (set row p v) p 0 ≡ v
      at = get_or-set_same row p v 0 (ends_asked i row l r).0

      few : (q : ℕ) (b : Bool) → eqb q p ≡ b → get_or (set row p v) q 0 ≤ i + 1
      few q true m = subst (λ k. get_or (set row p v) k 0 ≤ i + 1) (sym (eqb-true q p m)) (omega (arith, at, r.few p))
      few q false m = omega (arith, get_or-set_other row p q v 0 (eqb-false q p m), r.few q)

      no_end : (q : ℕ) → get_or (set row p v) q 0 ≡ 0 → (j : ℕ) → j < i + 1 → (b : Bool) → eqb q p ≡ b → (c : Bool) → eqb j i ≡ c → (box_at boxes j).x_end ≢ q
      no_end q z j k true m c n = absurd (let h : get_or (set row p v) p 0 ≡ 0 = subst (λ t. get_or (set row p v) t 0 ≡ 0) (eqb-true q p m) z in omega (arith, h, at))
      no_end q z j k false m true n = λ s. eqb-false q p m (sym (subst (λ t. (box_at boxes t).x_end ≡ q) (eqb-true j i n) s))
      no_end q z j k false m false n = r.no_end q (sym (get_or-set_other row p q v 0 (eqb-false q p m)) ∙ z) j (let h : (j ≡ i → ⊥) = eqb-false j i n in omega arith)
