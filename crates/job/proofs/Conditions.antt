-- Each refusal of the checks is given if its condition holds and no earlier one does, and never otherwise; a list is accepted if
-- and only if none holds, which is to say that it is valid (`job-decides`). The two halves of the checks decide so too, for a call that has
-- tests of its own between them. A valid list's cells lie in the field. Assumes nothing.
use mathlib.Core.Path.{◌≡◌, refl, sym, ◌∙◌}
use mathlib.Core.Bool.{Bool, true, false, not, ◌||◌, true≢false}
use mathlib.Core.Logic.{◌↔◌, ◌⊎◌, inl, inr, ⊎_elim}
use Prim.Native.Nat.{ℕ, ◌%◌, ◌<◌}
use native.Mathlib.Omega.{arith}
use lib.Dec.{ltb, eqb}
use lib.ListN.{length}
use borrow.Author.Tests.{ltb-true, ltb-false, lt-ltb, eqb-false, ne_eqb}
use Rattle.lattice.specs.Cells.{Within}
use Rattle.lattice.specs.Shots.{cells, any}
use Rattle.lattice.proofs.ShotLaws.{cells-within}
use Rattle.refusals.specs.declared.Refusal.{Refusal}
use Rattle.refusals.specs.declared.Refusal.TheVariants.{BrokenShot, TooManyShots, FieldRange, EdgeRange, GridRange, OutsideField}
use Rattle.job.specs.Job.{Job, shots, shot, shot_count, Valid}
use Rattle.job.specs.Checking.{outside, leaves, first_leaving, setting_tests, shot_tests, tests, checked}
use Rattle.job.specs.Conditions.{FirstOutside, Condition, broken_shot, too_many_shots, field_range, edge_range, grid_range, outside_field, None}
use Rattle.refusals.specs.Deciding.{Each, Says, First, Decides}
use Rattle.job.proofs.Tests.{within, out, is-out}
use Rattle.ground.proofs.Tests.{settled}
use Rattle.ground.proofs.Bools.{or-false, or-true, or-true-left, or_true_right}
use Rattle.job.proofs.Shots.{shots-count, shots-at, any-leaves, stays, stays-not, all_stay, leaving-first, stay-at}
use Rattle.refusals.proofs.FirstOf.{passes, none_each, none-iff}
use Rattle.refusals.proofs.Deciding.{decides-by, decides-then, decides-as}
use Rattle.std.specs.Prelude.{Ok}

module _ (job : Job) where
  open job use {field as F, edge as E, grid as G, coords}

  abbrev found : ℕ
  found = first_leaving F (shots job)

  leaving : any (leaves F) (shots job) ≡ ltb found (shot_count coords)
  leaving = rw (← shots-count E coords) (any-leaves F (shots job))

  -- the first shot that leaves the field is the one that the search finds
  found-outside : found < shot_count coords → FirstOutside job found
  found-outside h =
      let o = shot job 0 in
      record {
        is_shot = h;
        leaves_field = rw (shots-at E coords found o h) at (stays-not F _ ((leaving-first F (shots job) o).passes (omega (arith, shots-count E coords))));
        earlier_stay = λ i l. rw (shots-at E coords i o (omega arith)) at (stays F _ ((leaving-first F (shots job) o).earlier i (omega arith) l));
      }

  -- ---- each test says the condition of its refusal
  says-broken : Says (Condition job) (record { holds = not (eqb (length coords % 3) 0); gives = BrokenShot })
  says-broken = (λ e. broken_shot (to (eqb (length coords % 3) 0) refl e), from)
    where
      to : (b : Bool) → eqb (length coords % 3) 0 ≡ b → not b ≡ true → ¬ (length coords % 3 ≡ 0)
      to true h e = absurd (true≢false (sym e))
      to false h e = eqb-false (length coords % 3) 0 h

      from : Condition job BrokenShot → not (eqb (length coords % 3) 0) ≡ true
      from (broken_shot h) = rw (ne_eqb (length coords % 3) 0 h)

  says-many : Says (Condition job) (record { holds = ltb 4096 (shot_count coords); gives = TooManyShots 0 })
  says-many = (λ e. too_many_shots (ltb-true 4096 (shot_count coords) e), from)
    where
      from : Condition job (TooManyShots 0) → ltb 4096 (shot_count coords) ≡ true
      from (too_many_shots h) = lt-ltb 4096 (shot_count coords) h

  says-field : Says (Condition job) (record { holds = outside 1 1024 F; gives = FieldRange })
  says-field = (λ e. field_range (out 1 1024 F e), from)
    where
      from : Condition job FieldRange → outside 1 1024 F ≡ true
      from (field_range h) = is-out 1 1024 F h

  says-edge : Says (Condition job) (record { holds = outside 1 F E; gives = EdgeRange })
  says-edge = (λ e. edge_range (out 1 F E e), from)
    where
      from : Condition job EdgeRange → outside 1 F E ≡ true
      from (edge_range h) = is-out 1 F E h

  says-grid : Says (Condition job) (record { holds = outside 1 64 G || not (eqb (F % G) 0); gives = GridRange })
  says-grid = (λ e. grid_range (⊎_elim ranged divided (or-true (outside 1 64 G) _ e)), from)
    where
      ranged : outside 1 64 G ≡ true → (G < 1) ⊎ ((64 < G) ⊎ ¬ (F % G ≡ 0))
      ranged h = ⊎_elim (λ l. inl l) (λ l. inr (inl l)) (out 1 64 G h)

      divided : not (eqb (F % G) 0) ≡ true → (G < 1) ⊎ ((64 < G) ⊎ ¬ (F % G ≡ 0))
      divided h = inr (inr (unequal (eqb (F % G) 0) refl h))
        where
          unequal : (b : Bool) → eqb (F % G) 0 ≡ b → not b ≡ true → ¬ (F % G ≡ 0)
          unequal true h e = absurd (true≢false (sym e))
          unequal false h e = eqb-false (F % G) 0 h

      from : Condition job GridRange → outside 1 64 G || not (eqb (F % G) 0) ≡ true
      from (grid_range (inl l)) = or-true-left (outside 1 64 G) _ (is-out 1 64 G (inl l))
      from (grid_range (inr (inl l))) = or-true-left (outside 1 64 G) _ (is-out 1 64 G (inr l))
      from (grid_range (inr (inr n))) = or_true_right (outside 1 64 G) _ (rw (ne_eqb (F % G) 0 n))

  says-outside : Says (Condition job) (record { holds = any (leaves F) (shots job); gives = OutsideField found })
  says-outside = (λ e. outside_field (found-outside (ltb-true found (shot_count coords) (sym leaving ∙ e))), from)
    where
      from : Condition job (OutsideField found) → any (leaves F) (shots job) ≡ true
      from (outside_field f) = leaving ∙ lt-ltb found (shot_count coords) f.is_shot

  settings-say : Each (Says (Condition job)) (setting_tests job)
  unfolding setting_tests
  settings-say = (says-broken, (says-many, (says-field, (says-edge, (says-grid, tt)))))

  shots-say : Each (Says (Condition job)) (shot_tests F (shots job))
  unfolding shot_tests
  shots-say = (says-outside, tt)

  tests-say : Each (Says (Condition job)) (tests job)
  unfolding tests setting_tests shot_tests
  tests-say = (says-broken, (says-many, (says-field, (says-edge, (says-grid, (says-outside, tt))))))

  -- ---- the two halves of the checks
  pub settings-decide : Decides (setting_tests job) (None job (setting_tests job)) (First (Condition job) (setting_tests job))
  settings-decide = decides-by (Condition job) (setting_tests job) settings-say

  pub shots-decide : Decides (shot_tests F (shots job)) (None job (shot_tests F (shots job))) (First (Condition job) (shot_tests F (shots job)))
  shots-decide = decides-by (Condition job) (shot_tests F (shots job)) shots-say

  -- ---- a list is accepted if and only if it is valid
  valid-if : checked job ≡ Ok tt → Valid job
  unfolding tests setting_tests shot_tests
  valid-if e =
      let p = (passes (tests job)).0 e in
      let field = p.1.1.0 in
      let edge = p.1.1.1.0 in
      let grid = p.1.1.1.1.0 in
      let g = or-false (outside 1 64 G) _ grid in
      record {
        threes = settled (length coords % 3) 0 (λ n. true≢false (sym (says-broken.1 (broken_shot n)) ∙ p.0));
        few = ltb-false 4096 (shot_count coords) p.1.0;
        field_least = (within 1 1024 F field).0;
        field_most = (within 1 1024 F field).1;
        edge_least = (within 1 F E edge).0;
        edge_most = (within 1 F E edge).1;
        grid_least = (within 1 64 G g.0).0;
        grid_most = (within 1 64 G g.0).1;
        grid_divides = settled (F % G) 0 (λ n. true≢false (sym (says-grid.1 (grid_range (inr (inr n)))) ∙ grid));
        inside = all_stay F (shots job) (omega (arith, shots-count E coords, ltb-false found (shot_count coords) (sym leaving ∙ p.1.1.1.1.1.0)));
      }

  -- no condition holds of a valid list
  valid-none : Valid job → (q : Refusal) → ¬ Condition job q
  valid-none v q (broken_shot h) = h v.threes
  valid-none v q (too_many_shots h) = omega (arith, v.few)
  valid-none v q (field_range h) = ⊎_elim (λ m. omega (arith, v.field_least)) (λ m. omega (arith, v.field_most)) h
  valid-none v q (edge_range h) = ⊎_elim (λ m. omega (arith, v.edge_least)) (λ m. omega (arith, v.edge_most)) h
  valid-none v q (grid_range h) = ⊎_elim (λ m. omega (arith, v.grid_least)) (⊎_elim (λ m. omega (arith, v.grid_most)) (λ n. n v.grid_divides)) h
  valid-none v q (outside_field f) = f.leaves_field (stay-at F E coords v.inside _ f.is_shot)

  -- a list is valid if and only if the condition of no test holds, of the settings and of the shots
  pub valid-halves : Valid job ↔ (None job (setting_tests job) × None job (shot_tests F (shots job)))
  unfolding tests
  valid-halves =
      let d = (decides-then settings-decide shots-decide).accepted in
      (λ v. (none_each (Condition job) (valid-none v) (setting_tests job), none_each (Condition job) (valid-none v) (shot_tests F (shots job))), λ n. valid-if (d.1 n))

  -- the checks accept a list if and only if it is valid, and a refusal is given if and only if its condition holds and that of no test
  -- before it does
  pub job-decides : Decides (tests job) (Valid job) (First (Condition job) (tests job))
  job-decides =
      decides-as (decides-by (Condition job) (tests job) tests-say)
      ((λ n. valid-if ((none-iff (Condition job) (tests job) tests-say).1 n), λ v. none_each (Condition job) (valid-none v) (tests job)))
      (λ r. (λ f. f, λ f. f))

  pub accepted-valid : (checked job ≡ Ok tt) ↔ Valid job
  accepted-valid = job-decides.accepted

-- the cells of a valid list lie in the field
pub valid-within : {job : Job} → Valid job → Within job.field (cells (shots job))
valid-within {job} v = cells-within job.field (shots job) v.inside
