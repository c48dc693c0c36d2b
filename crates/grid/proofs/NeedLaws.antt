-- The need, counted shot by shot: the pairs of a shot are the product of three spans.
use Rattle.std.proofs.Common.{◌≡◌, ℕ, suc, ◌+◌, ◌-◌, ◌*◌, ◌/◌, ◌<◌, ◌≤◌, true, ◌&&◌, ltb, leb, List, sym, refl, ap, ◌∙◌, mul_comm, div-lt_iff_lt-mul, mul-le-mul, mul-pos, le-div_iff_mul-le, mul-one, div-mul-le_self, add-one, arith, le-leb}
use native.Mathlib.Nat.{div-le_of_le-mul, le-min}
use native.Mathlib.Decide.{dec_lt}
use Prim.Native.Nat.{min}
use lib.ListN.{get_or}
use Rattle.ground.specs.Sums.{total}
use Rattle.ground.specs.Numbers.{bit}
use Rattle.lattice.specs.Shots.{Shot}
use Rattle.job.specs.Job.{Job, job_of, shot, shot_count, shot_at, Valid}
use Rattle.job.proofs.Shots.{stay-at}
use Rattle.grid.specs.Quotients.{Quotients}
use Rattle.grid.specs.Grid.{grid_cells, meets, touches, touches_cell, span_of, pairs_of, pairs, need}
use Rattle.ground.proofs.TotalLaws.{total-agree, total-most, total-swap, total-digits, total-triples, count-inside, count_past, total-same}
use Rattle.ground.proofs.Tests.{leb-alike}
use Rattle.ground.proofs.Bits.{bit-most}
use Rattle.grid.proofs.QuotientLaws.{quotients-fewer}
use Rattle.ground.proofs.Digits.{digit-high, digit_low}
use Rattle.grid.proofs.ShotLaws.{width-times, width-least}

-- ---- how many intervals a span meets

module _ (s c e : ℕ) (h : 1 ≤ s) where
  -- the interval after the last one that a span meets, and the first one
  abbrev last_after : ℕ
  last_after = (c + e) / s + 1

  abbrev first_met : ℕ
  first_met = (c - 1) / s

  meets-from : (g : ℕ) → meets s g c e ≡ (ltb g last_after && leb first_met g)
  unfolding meets
  meets-from g =
      rw (leb-alike (g * s) (c + e) (suc g) ((c + e) / s + 1) (λ l. omega (arith, (le-div_iff_mul-le {k = s} {x = g} {y = c + e} h).1 l)) (λ l. (le-div_iff_mul-le {k = s} {x = g} {y = c + e} h).0 (omega arith)))
      (ap (λ t. ltb g last_after && t) (leb-alike c ((g + 1) * s) ((c - 1) / s) g low high))
    where
      some : 1 ≤ (g + 1) * s
      some = mul-pos {m = g + 1} {n = s} (omega arith) h

      low : c ≤ (g + 1) * s → (c - 1) / s ≤ g
      low l = omega (arith, (div-lt_iff_lt-mul {k = s} {x = c - 1} {y = g + 1} h).1 (omega (arith, some)))

      high : (c - 1) / s ≤ g → c ≤ (g + 1) * s
      high l = omega (arith, (div-lt_iff_lt-mul {k = s} {x = c - 1} {y = g + 1} h).0 (omega arith), some)

  first-before : first_met ≤ last_after
  first-before = omega (arith, (le-div_iff_mul-le {k = s} {x = (c - 1) / s} {y = c + e} h).1 (omega (arith, div-mul-le_self (c - 1) s)))

  first-most : (G : ℕ) → c + e ≤ G * s → first_met ≤ G
  first-most G l = div-le_of_le-mul s {m = c - 1} {n = G} (omega (arith, mul_comm s G))

  span-inside : (G : ℕ) → G ≤ last_after → G - first_met ≡ span_of G s c e
  span-inside G l = sym (total-agree G _ _ (λ g k. ap bit (meets-from g)) ∙ count-inside first_met last_after G l)

  span-past : (G : ℕ) → last_after ≤ G → last_after - first_met ≡ span_of G s c e
  span-past G l = sym (total-agree G _ _ (λ g k. ap bit (meets-from g)) ∙ count_past first_met last_after G l)

  -- both looked up in a table of quotients
  module _ (G : ℕ) (l : c + e ≤ G * s) {table : List ℕ} (q : Quotients s (c + e + 1) table) where
    first-is : get_or table (c - 1) 0 ≡ first_met
    first-is = q.at (c - 1) (omega arith)

    last-is : get_or table (c + e) 0 ≡ (c + e) / s
    last-is = q.at (c + e) (omega arith)

    pub first-read : get_or table (c - 1) 0 ≤ min (get_or table (c + e) 0 + 1) G
    first-read = rw (first-is, last-is) (le-min first-before (first-most G l))

    pub span-read : min (get_or table (c + e) 0 + 1) G - get_or table (c - 1) 0 ≡ span_of G s c e
    span-read = rw (first-is, last-is) (go (dec_lt G last_after))
      where
        go : Dec (G < last_after) → min last_after G - first_met ≡ span_of G s c e
        go (yes k) = let m : min last_after G ≡ G = omega arith in rw m (span-inside G (omega arith))
        go (no k) = let m : min last_after G ≡ last_after = omega arith in rw m (span-past G (omega arith))

-- ---- the grid cells that a shot belongs to

span-most : (G s c e : ℕ) → span_of G s c e ≤ G
span-most G s c e = omega (arith, total-most G 1 (λ g. bit (meets s g c e)) (λ g l. bit-most (meets s g c e)), mul-one G)

-- three spans of at most 64
pub square-few : (a b : ℕ) → a ≤ 64 → b ≤ 64 → a * b ≤ 4096
square-few a b h i = mul-le-mul {n₁ = a} {m₁ = b} {n₂ = 64} {m₂ = 64} h i

pub product-few : (a b c : ℕ) → a ≤ 64 → b ≤ 64 → c ≤ 64 → a * b * c ≤ 262144
product-few a b c h i j = mul-le-mul {n₁ = a * b} {m₁ = c} {n₂ = 4096} {m₂ = 64} (square-few a b h i) j

-- a span found from a width, a coordinate and an edge that are known
pub span-alike : (G : ℕ) {r s s' c c' e e' : ℕ} → r ≡ span_of G s c e → s ≡ s' → c ≡ c' → e ≡ e' → r ≡ span_of G s' c' e'
span-alike G a g h k = rw (← g, ← h, ← k) a

pub span-few : (G s c e : ℕ) → G ≤ 64 → {r : ℕ} → r ≡ span_of G s c e → r ≤ 64
span-few G s c e h a = omega (arith, a, span-most G s c e)

pairs-product : (F G : ℕ) (t : Shot) → span_of G (F / G) t.x t.edge * span_of G (F / G) t.y t.edge * span_of G (F / G) t.z t.edge ≡ (total (G * G * G) λ cell. bit (touches_cell F G cell t))
pairs-product F G t =
    sym (total-digits (G * G) G _
    ∙ (total-digits G G _
    ∙ (total-agree G _ _ (λ gx hx. total-agree G _ _ (λ gy hy. total-agree G _ _ (λ gz hz. by_place gx gy gz hy hz)))
    ∙ total-triples G (λ g. meets (F / G) g t.x t.edge) (λ g. meets (F / G) g t.y t.edge) (λ g. meets (F / G) g t.z t.edge))))
  where
    by_place : (gx gy gz : ℕ) → gy < G → gz < G → bit (touches_cell F G ((gx * G + gy) * G + gz) t) ≡ bit (touches (F / G) gx gy gz t)
    by_place gx gy gz hy hz = rw (digit-high G (gx * G + gy) gz hz, digit_low G (gx * G + gy) gz hz, digit-high G gx gy hy, digit_low G gx gy hy)

pub pairs-of-spans : (F G : ℕ) (t : Shot) {a b c : ℕ} → a ≡ span_of G (F / G) t.x t.edge → b ≡ span_of G (F / G) t.y t.edge → c ≡ span_of G (F / G) t.z t.edge → a * b * c ≡ (total (G * G * G) λ cell. bit (touches_cell F G cell t))
pairs-of-spans F G t x y z = rw (x, y, z) (pairs-product F G t)

-- a span that stays in the field of a valid list stays in its intervals, and the quotients up to the field's side tell it
pub span-asked : {job : Job} {s : ℕ} {table : List ℕ} → Valid job → s ≡ job.field / job.grid → Quotients s (job.field + 1) table → (c e : ℕ) → c + e ≤ job.field → (1 ≤ s) × ((c + e ≤ job.grid * s) × Quotients s (c + e + 1) table)
span-asked {job} {s} v w t c e h = (omega (arith, width-least v), (omega (arith, width-times v, ap (λ (n : ℕ). job.grid * n) w), quotients-fewer s (job.field + 1) t (c + e + 1) (omega arith)))

module _ (job : Job) where
  open job use {field as F, grid as G, coords}

  -- the pairs counted by shots are the pairs counted by grid cells
  pairs-by-shots : total (shot_count coords) (pairs_of job) ≡ pairs job
  unfolding pairs
  pairs-by-shots = total-swap (shot_count coords) (grid_cells job) (λ i cell. bit (touches_cell F G cell (shot job i)))

  pub pairs-none : 0 ≡ total 0 (pairs_of job)
  unfolding total
  pairs-none = refl

  pub pairs_next : (n : ℕ) {a b : ℕ} → a ≡ total n (pairs_of job) → b ≡ pairs_of job n → a + b ≡ total (n + 1) (pairs_of job)
  unfolding total
  pairs_next n e e' = rw (add-one n, e, e')

  pub pairs-few : G ≤ 64 → (n : ℕ) → total n (pairs_of job) ≤ n * 262144
  pairs-few h n = total-most n 262144 (pairs_of job) λ i l. rw (← pairs-product F G (shot job i)) (few (shot job i))
    where
      few : (t : Shot) → span_of G (F / G) t.x t.edge * span_of G (F / G) t.y t.edge * span_of G (F / G) t.z t.edge ≤ 262144
      few t = product-few _ _ _ (one t.x t.edge) (one t.y t.edge) (one t.z t.edge)
        where
          one : (c e : ℕ) → span_of G (F / G) c e ≤ 64
          one c e = omega (arith, span-most G (F / G) c e)

  pub pairs-all : {a : ℕ} (n : ℕ) → n ≡ shot_count coords → a ≡ total n (pairs_of job) → a ≡ pairs job
  pairs-all n e p = p ∙ rw (e, pairs-by-shots)

  pub pairs-most : Valid job → pairs job ≤ 1073741824
  pairs-most v = omega (arith, pairs-by-shots, pairs-few v.grid_most (shot_count coords), v.few)

  pub need-by-pairs : {cells a : ℕ} → cells ≡ grid_cells job → a ≡ pairs job → cells + 1 + a ≡ need job
  unfolding need
  need-by-pairs c p = rw (c, p)

-- ---- a grid of one cell
whole_meets : (F c e : ℕ) → c ≤ F → meets (F / 1) 0 c e ≡ true
unfolding meets
whole_meets F c e h = rw (le-leb (0 * (F / 1)) (c + e) (omega arith), le-leb c ((0 + 1) * (F / 1)) (omega arith))

-- every shot belongs to it: an entry a shot, and the two starting places
pub one-cell-need : {F E : ℕ} {coords : List ℕ} → Valid (job_of F E 1 coords) → need (job_of F E 1 coords) ≡ shot_count coords + 2
unfolding need pairs total
one-cell-need {F} {E} {coords} v = omega (arith, total-agree (shot_count coords) _ _ touched ∙ total-same (shot_count coords) 1)
  where
    touched : (i : ℕ) → i < shot_count coords → bit (touches_cell F 1 0 (shot_at E coords i)) ≡ 1
    touched i h =
        let t = shot_at E coords i in
        let p = stay-at F E coords v.inside i h in
        rw (whole_meets F t.x t.edge (omega (arith, p.x_in)), whole_meets F t.y t.edge (omega (arith, p.y_in)), whole_meets F t.z t.edge (omega (arith, p.z_in)))
