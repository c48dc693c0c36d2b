-- The shots of a coordinate list, one by one: how many, which, and whether they stay in the field. Assumes nothing.
use mathlib.Core.Path.{◌≡◌, refl, sym, ap, ◌∙◌}
use mathlib.Core.Bool.{Bool, true, false, cond, ◌||◌, true≢false}
use mathlib.Core.List.{List, [], ◌∷◌}
use Prim.Native.Nat.{ℕ, zero, suc, ◌+◌, ◌*◌, ◌/◌, ◌≤◌, ◌<◌}
use native.Mathlib.Omega.{arith}
use lib.Dec.{T, ltb, leb-suc-suc}
use lib.ListN.{length, get_or, drop, length-drop}
use lib.Seq.{drop-cons}
use borrow.Author.Tests.{lt-ltb, le-ltb, ltb-false}
use Rattle.lattice.specs.Shots.{Shot, any, InField, AllInField}
use Rattle.ground.specs.FirstPlace.{FirstPlace}
use Rattle.ground.proofs.SearchLaws.{search-none, search-all, place-unique, place-agree, place_here, place-later}
use Rattle.job.specs.Job.{shots_of, shot_at, x_at, y_at, z_at, edge_at}
use Rattle.job.specs.Checking.{past, leaves, first_leaving}
use Rattle.ground.proofs.Bools.{or-false, or_left, or_right, or_elim}

module _ (e : ℕ) where
  -- three numbers a shot
  pub shots-count : (coords : List ℕ) → length (shots_of e coords) ≡ length coords / 3
  unfolding shots_of
  shots-count [] = refl
  shots-count (x ∷ []) = refl
  shots-count (x ∷ y ∷ []) = refl
  shots-count (x ∷ y ∷ z ∷ rest) = omega (arith, shots-count rest)

  shots-short : (coords : List ℕ) → length coords < 3 → shots_of e coords ≡ []
  unfolding shots_of
  shots-short [] h = refl
  shots-short (x ∷ []) h = refl
  shots-short (x ∷ y ∷ []) h = refl
  shots-short (x ∷ y ∷ z ∷ rest) h = absurd (omega arith)

  shot-later : (x y z : ℕ) (rest : List ℕ) (i : ℕ) → shot_at e (x ∷ y ∷ z ∷ rest) (suc i) ≡ shot_at e rest i
  shot-later x y z rest i =
      let px : 3 * suc i ≡ suc (suc (suc (3 * i))) = omega arith in
      let py : 3 * suc i + 1 ≡ suc (suc (suc (3 * i + 1))) = omega arith in
      let pz : 3 * suc i + 2 ≡ suc (suc (suc (3 * i + 2))) = omega arith in
      rw (pz, py, px)

  -- the shots by their numbers
  pub shots-at : (coords : List ℕ) (i : ℕ) (t : Shot) → i < length coords / 3 → get_or (shots_of e coords) i t ≡ shot_at e coords i
  unfolding shots_of
  shots-at [] i t h = absurd (omega arith)
  shots-at (x ∷ []) i t h = absurd (omega arith)
  shots-at (x ∷ y ∷ []) i t h = absurd (omega arith)
  shots-at (x ∷ y ∷ z ∷ rest) zero t h = refl
  shots-at (x ∷ y ∷ z ∷ rest) (suc i) t h = shots-at rest i t (omega arith) ∙ sym (shot-later x y z rest i)

  module _ (coords : List ℕ) (i : ℕ) where
    -- from shot i on: shot i, and then from the next one on
    pub shots-from : i < length coords / 3 → shots_of e (drop (3 * i) coords) ≡ shot_at e coords i ∷ shots_of e (drop (3 * (i + 1)) coords)
    unfolding shots_of
    shots-from h =
        let hx : 3 * i < length coords = omega arith in
        let hy : 3 * i + 1 < length coords = omega arith in
        let hz : 3 * i + 2 < length coords = omega arith in
        let ny : suc (3 * i) ≡ 3 * i + 1 = omega arith in
        let nz : suc (3 * i + 1) ≡ 3 * i + 2 = omega arith in
        let ne : suc (3 * i + 2) ≡ 3 * (i + 1) = omega arith in
        rw (drop-cons coords (3 * i) 0, ny, drop-cons coords (3 * i + 1) 0, nz, drop-cons coords (3 * i + 2) 0, ne)

    -- past the last shot
    pub shots-end : length coords / 3 ≤ i → shots_of e (drop (3 * i) coords) ≡ []
    shots-end h = shots-short (drop (3 * i) coords) (omega (arith, length-drop (3 * i) coords))

-- ---- the first shot that leaves the field
module _ (F : ℕ) where
  -- it stands at the first place whose shot leaves it
  pub leaving-first : (ts : List Shot) (o : Shot) → FirstPlace (λ i. leaves F (get_or ts i o)) 0 (length ts) (first_leaving F ts)
  unfolding first_leaving
  leaving-first [] o = search-all (search-none (omega arith)) (omega arith)
  leaving-first (t ∷ ts) o = go (leaves F t) refl (leaving-first ts o)
    where
      go : (b : Bool) → leaves F t ≡ b → FirstPlace (λ i. leaves F (get_or ts i o)) 0 (length ts) (first_leaving F ts) → FirstPlace (λ i. leaves F (get_or (t ∷ ts) i o)) 0 (suc (length ts)) (cond b 0 (suc (first_leaving F ts)))
      go true e r = place_here (omega arith) e
      go false e r = place-later (λ i. leaves F (get_or (t ∷ ts) i o)) e r

  -- so a search of a coordinate list finds it
  pub leaving-found : (e : ℕ) (coords : List ℕ) {r : ℕ} → FirstPlace (λ i. leaves F (shot_at e coords i)) 0 (length coords / 3) r → r ≡ first_leaving F (shots_of e coords)
  leaving-found e coords a =
      let o = shot_at e coords 0 in
      place-unique a (place-agree (λ i h. ap (leaves F) (shots-at e coords i o h)) (rw (shots-count e coords) at (leaving-first (shots_of e coords) o)))

-- what is asked of a shot's numbers is asked of the shot
pub asked_of : {edge x y z : ℕ} {r : Bool} (F e : ℕ) (coords : List ℕ) (i : ℕ)
    → edge ≡ edge_at e coords i
    → x ≡ x_at coords i
    → y ≡ y_at coords i
    → z ≡ z_at coords i
    → r ≡ leaves F (record { x = x; y = y; z = z; edge = edge })
    → r ≡ leaves F (shot_at e coords i)
asked_of F e coords i pe px py pz k = k ∙ rw (pe, px, py, pz)

-- ---- a shot leaves the field if and only if one is found
module _ (F : ℕ) where
  pub any-leaves : (ts : List Shot) → any (leaves F) ts ≡ ltb (first_leaving F ts) (length ts)
  unfolding any first_leaving
  any-leaves [] = refl
  any-leaves (t ∷ ts) = go (leaves F t) (any-leaves ts)
    where
      go : (b : Bool) → any (leaves F) ts ≡ ltb (first_leaving F ts) (length ts) → (b || any (leaves F) ts) ≡ ltb (cond b 0 (suc (first_leaving F ts))) (length (t ∷ ts))
      go true e = sym (lt-ltb 0 (length (t ∷ ts)) (omega arith))
      go false e = e ∙ sym (leb-suc-suc (suc (first_leaving F ts)) (length ts))

-- ---- shots that stay in the field
module _ (F : ℕ) (t : Shot) where
  pub stays : leaves F t ≡ false → InField F t
  stays h =
      record {
        x_in = ltb-false F (t.x + t.edge) (or-false (past F t.edge t.x) _ h).0;
        y_in = ltb-false F (t.y + t.edge) (or-false (past F t.edge t.y) _ (or-false (past F t.edge t.x) _ h).1).0;
        z_in = ltb-false F (t.z + t.edge) (or-false (past F t.edge t.y) _ (or-false (past F t.edge t.x) _ h).1).1;
      }

  pub stays-not : leaves F t ≡ true → ¬ InField F t
  stays-not h s = true≢false (sym h ∙ simp (le-ltb F (t.x + t.edge) s.x_in, le-ltb F (t.y + t.edge) s.y_in, le-ltb F (t.z + t.edge) s.z_in))

-- every shot of a list stays in the field, or one is the first that leaves it
module _ (F : ℕ) where
  pub all_stay : (ts : List Shot) → length ts ≤ first_leaving F ts → AllInField F ts
  unfolding first_leaving
  all_stay [] h = tt
  all_stay (t ∷ ts) h = go (leaves F t) refl h (all_stay ts)
    where
      go : (b : Bool) → leaves F t ≡ b → suc (length ts) ≤ cond b 0 (suc (first_leaving F ts)) → (length ts ≤ first_leaving F ts → AllInField F ts) → InField F t × AllInField F ts
      go true e l r = absurd (omega arith)
      go false e l r = (stays F t e, r (omega arith))

-- the shots of a coordinate list stay in the field if each one does, by its number
module _ (F e : ℕ) where
  pub stay-at : (coords : List ℕ) → AllInField F (shots_of e coords) → (i : ℕ) → i < length coords / 3 → InField F (shot_at e coords i)
  unfolding shots_of
  stay-at [] a i h = absurd (omega arith)
  stay-at (x ∷ []) a i h = absurd (omega arith)
  stay-at (x ∷ y ∷ []) a i h = absurd (omega arith)
  stay-at (x ∷ y ∷ z ∷ rest) a zero h = a.0
  stay-at (x ∷ y ∷ z ∷ rest) a (suc i) h = rw (shot-later e x y z rest i) (stay-at rest a.1 i (omega arith))

  pub stay_all : (coords : List ℕ) → ((i : ℕ) → i < length coords / 3 → InField F (shot_at e coords i)) → AllInField F (shots_of e coords)
  unfolding shots_of
  stay_all [] s = tt
  stay_all (x ∷ []) s = tt
  stay_all (x ∷ y ∷ []) s = tt
  stay_all (x ∷ y ∷ z ∷ rest) s = (s 0 (omega arith), stay_all rest (λ i h. rw (shot-later e x y z rest i) at (s (suc i) (omega arith))))

-- a test of the shots, by their numbers
module _ (e : ℕ) (f : Shot → Bool) where
  pub any_at : (coords : List ℕ) → T (any f (shots_of e coords)) → (i : ℕ) × (i < length coords / 3) × T (f (shot_at e coords i))
  unfolding shots_of any
  any_at [] a = absurd a
  any_at (x ∷ []) a = absurd a
  any_at (x ∷ y ∷ []) a = absurd a
  any_at (x ∷ y ∷ z ∷ rest) a = or_elim (f (shot_at e (x ∷ y ∷ z ∷ rest) 0)) (any f (shots_of e rest)) a (λ h. (0, omega arith, h)) (λ h. let r = any_at rest h in (suc r.0, omega (arith, r.1), rw (shot-later e x y z rest r.0) r.2))

  pub at-any : (coords : List ℕ) (i : ℕ) → i < length coords / 3 → T (f (shot_at e coords i)) → T (any f (shots_of e coords))
  unfolding shots_of any
  at-any [] i h t = absurd (omega arith)
  at-any (x ∷ []) i h t = absurd (omega arith)
  at-any (x ∷ y ∷ []) i h t = absurd (omega arith)
  at-any (x ∷ y ∷ z ∷ rest) zero h t = or_left (f (shot_at e (x ∷ y ∷ z ∷ rest) 0)) (any f (shots_of e rest)) t
  at-any (x ∷ y ∷ z ∷ rest) (suc i) h t = or_right (f (shot_at e (x ∷ y ∷ z ∷ rest) 0)) (any f (shots_of e rest)) (at-any rest i (omega arith) (rw (shot-later e x y z rest i) at t))
