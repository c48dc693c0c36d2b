-- Of a listing that rises, the first unbroken run of an x is all corners with it; the parts of all x, one after another, are the
-- listing. Assumes nothing.
use mathlib.Core.Path.{◌≡◌, refl, sym, ◌∙◌, ap, subst}
use mathlib.Core.Logic.{⊎_elim}
use mathlib.Core.Bool.{Bool, true, false, cond}
use mathlib.Core.List.Memᴰ
use mathlib.Core.List.{List, [], ◌∷◌, ◌++◌, append_assoc, Memᴰ}
use Prim.Native.Nat.{ℕ, zero, suc, ◌≤◌, ◌<◌}
use native.Mathlib.Nat.{zero-add, suc-add}
use native.Mathlib.Omega.{arith}
use lib.Dec.{eqb}
use lib.ListN.{take}
use borrow.Author.Tests.{eq-eqb, ne_eqb}
use Rattle.lattice.specs.Cells.{Cells}
use Rattle.ground.specs.Sums.{join}
use Rattle.lattice.specs.Listing.{Corner, corners, IsCorner, Precedes, All, Rising, corner_record, bytes, listing, read_back}
use Rattle.lattice.proofs.ListingLaws.{read_back-bytes}
use Rattle.ground.proofs.Tests.{same-or-other}
use Rattle.ground.proofs.JoinLaws.{join-ext, join-nil}
use Rattle.lattice.proofs.Order.{all_map, corners-rising, corners-are, corners-exactly}
use Rattle.section.proofs.RunLaws.{part_bytes}
use Rattle.section.specs.Section.{asked, asks, count_before, run_start, run_end, first_run, Foremost, IsFirstRun, with_x, part_with, SectionOf}

-- ---- the run, a corner at a time
-- those with that x in front
unfoldable front : ℕ → List Corner → List Corner
front x vs = take (count_before (asks false x) vs) vs

module _ (x : ℕ) (v : Corner) (vs : List Corner) where
  front_same : v.x ≡ x → front x (v ∷ vs) ≡ v ∷ front x vs
  unfolding front count_before asked
  front_same e = rw (eq-eqb v.x x e)

  front-other : (v.x ≡ x → ⊥) → front x (v ∷ vs) ≡ []
  unfolding front count_before asked
  front-other e = rw (ne_eqb v.x x e)

  start-same : v.x ≡ x → run_start x (v ∷ vs) ≡ 0
  unfolding run_start count_before asked
  start-same e = rw (eq-eqb v.x x e)

  start-other : (v.x ≡ x → ⊥) → run_start x (v ∷ vs) ≡ suc (run_start x vs)
  unfolding run_start count_before asked
  start-other e = rw (ne_eqb v.x x e)

  run-same : v.x ≡ x → first_run x (v ∷ vs) ≡ v ∷ front x vs
  unfolding first_run run_end front
  run-same e = rw (start-same e, zero-add) (front_same e)

  run-other : (v.x ≡ x → ⊥) → first_run x (v ∷ vs) ≡ first_run x vs
  unfolding first_run run_end
  run-other e = rw (start-other e, suc-add)

  with-same : v.x ≡ x → with_x x (v ∷ vs) ≡ v ∷ with_x x vs
  unfolding with_x
  with-same e = rw (eq-eqb v.x x e)

  with-other : (v.x ≡ x → ⊥) → with_x x (v ∷ vs) ≡ with_x x vs
  unfolding with_x
  with-other e = rw (ne_eqb v.x x e)

-- ---- what the run is
record Front (x : ℕ) (vs run : List Corner) : Type 0 where
  behind : List Corner
  splits : vs ≡ run ++ behind
  all_in : All (λ v. v.x ≡ x) run
  broken : Foremost (λ v. v.x ≡ x → ⊥) behind

front-is : (x : ℕ) (vs : List Corner) → Front x vs (front x vs)
unfolding front count_before
front-is x [] = record { behind = []; splits = refl; all_in = tt; broken = tt }
front-is x (v ∷ vs) = ⊎_elim (λ e. same e (front-is x vs)) other (same-or-other v.x x)
  where
    same : v.x ≡ x → Front x vs (front x vs) → Front x (v ∷ vs) (front x (v ∷ vs))
    same e f = rw (front_same x v vs e) (record { behind = f.behind; splits = ap (λ us. v ∷ us) f.splits; all_in = (e, f.all_in); broken = f.broken })

    other : (v.x ≡ x → ⊥) → Front x (v ∷ vs) (front x (v ∷ vs))
    other e = rw (front-other x v vs e) (record { behind = v ∷ vs; splits = refl; all_in = tt; broken = e })

-- the definition gives the first unbroken run
pub run-is-first : (x : ℕ) (vs : List Corner) → IsFirstRun x vs (first_run x vs)
unfolding first_run run_start run_end count_before
run-is-first x [] = record { ahead = []; behind = []; splits = refl; none_ahead = tt; all_in = tt; broken = tt; none = λ e. refl }
run-is-first x (v ∷ vs) = ⊎_elim (λ e. same e (front-is x vs)) (λ e. other e (run-is-first x vs)) (same-or-other v.x x)
  where
    same : v.x ≡ x → Front x vs (front x vs) → IsFirstRun x (v ∷ vs) (first_run x (v ∷ vs))
    same e f = rw (run-same x v vs e) (record {
      ahead = [];
      behind = f.behind;
      splits = ap (λ us. v ∷ us) f.splits;
      none_ahead = tt;
      all_in = (e, f.all_in);
      broken = f.broken;
      none = λ k. absurd (let z : ◌≡◌ {A = ℕ} 0 1 = cc in omega arith);
    })

    other : (v.x ≡ x → ⊥) → IsFirstRun x vs (first_run x vs) → IsFirstRun x (v ∷ vs) (first_run x (v ∷ vs))
    other e f = rw (run-other x v vs e) (record {
      ahead = v ∷ f.ahead;
      behind = f.behind;
      splits = ap (λ us. v ∷ us) f.splits;
      none_ahead = (e, f.none_ahead);
      all_in = f.all_in;
      broken = f.broken;
      none = f.none;
    })

-- and none where no corner has that x
pub run_none : (x : ℕ) (vs : List Corner) → All (λ v. v.x ≡ x → ⊥) vs → first_run x vs ≡ []
unfolding first_run run_start run_end count_before
run_none x [] none = refl
run_none x (v ∷ vs) none = run-other x v vs none.0 ∙ run_none x vs none.1

-- ---- of a list that rises
-- what follows a corner has its x or a larger one
abbrev From : ℕ → Corner → Type 0
From x v = x ≤ v.x

not-below : (v u : Corner) → Precedes v u → From v.x u
not-below v u p = ⊎_elim (λ l. omega arith) (λ e. omega (arith, e.0)) p

rest_from : (v : Corner) (vs : List Corner) → Rising (v ∷ vs) → All (From v.x) vs
rest_from v vs r = all_map (Precedes v) (From v.x) (not-below v) vs r.0

with_none : (x : ℕ) (vs : List Corner) → All (From (suc x)) vs → with_x x vs ≡ []
unfolding with_x
with_none x [] a = refl
with_none x (v ∷ vs) a = with-other x v vs (λ e. omega (arith, e, a.0)) ∙ with_none x vs a.1

front-with : (x : ℕ) (vs : List Corner) → All (From x) vs → Rising vs → front x vs ≡ with_x x vs
unfolding with_x front count_before
front-with x [] a r = refl
front-with x (v ∷ vs) a r = ⊎_elim (λ e. same e (front-with x vs a.1 r.1)) other (same-or-other v.x x)
  where
    same : v.x ≡ x → front x vs ≡ with_x x vs → front x (v ∷ vs) ≡ with_x x (v ∷ vs)
    same e h = front_same x v vs e ∙ (ap (λ us. v ∷ us) h ∙ sym (with-same x v vs e))

    other : (v.x ≡ x → ⊥) → front x (v ∷ vs) ≡ with_x x (v ∷ vs)
    other e = front-other x v vs e ∙ (sym (with_none x vs (all_map (From v.x) (From (suc x)) (λ u h. omega (arith, a.0, e)) vs (rest_from v vs r))) ∙ sym (with-other x v vs e))

-- the first unbroken run is all corners with that x
pub run-with : (x : ℕ) (vs : List Corner) → Rising vs → first_run x vs ≡ with_x x vs
unfolding with_x first_run run_start run_end count_before
run-with x [] r = refl
run-with x (v ∷ vs) r = ⊎_elim same (other (run-with x vs r.1)) (same-or-other v.x x)
  where
    same : v.x ≡ x → first_run x (v ∷ vs) ≡ with_x x (v ∷ vs)
    same e = run-same x v vs e ∙ (ap (λ us. v ∷ us) (front-with x vs (all_map (From v.x) (From x) (λ u h. omega (arith, e)) vs (rest_from v vs r)) r.1) ∙ sym (with-same x v vs e))

    other : first_run x vs ≡ with_x x vs → (v.x ≡ x → ⊥) → first_run x (v ∷ vs) ≡ with_x x (v ∷ vs)
    other h e = run-other x v vs e ∙ (h ∙ sym (with-other x v vs e))

-- ---- exactly those
with-only : (x : ℕ) (vs : List Corner) {v : Corner} → Memᴰ v (with_x x vs) → Memᴰ v vs × (v.x ≡ x)
unfolding with_x
with-only x [] m = absurd (Memᴰ.not-nil m)
with-only x (u ∷ vs) {v} m = ⊎_elim (λ e. same e (λ k. with-only x vs k)) (λ e. other e (λ k. with-only x vs k)) (same-or-other u.x x)
  where
    same : u.x ≡ x → (Memᴰ v (with_x x vs) → Memᴰ v vs × (v.x ≡ x)) → Memᴰ v (u ∷ vs) × (v.x ≡ x)
    same e h =
        ⊎_elim (λ k. (Memᴰ.head k, ap (λ (c : Corner). c.x) k ∙ e)) (λ k. (Memᴰ.tail (h k).0, (h k).1))
        (Memᴰ.cases_cons (subst (λ (us : List Corner). Memᴰ v us) (with-same x u vs e) m))

    other : (u.x ≡ x → ⊥) → (Memᴰ v (with_x x vs) → Memᴰ v vs × (v.x ≡ x)) → Memᴰ v (u ∷ vs) × (v.x ≡ x)
    other e h = let k = h (subst (λ (us : List Corner). Memᴰ v us) (with-other x u vs e) m) in (Memᴰ.tail k.0, k.1)

with_each : (x : ℕ) (vs : List Corner) {v : Corner} → v.x ≡ x → Memᴰ v vs → Memᴰ v (with_x x vs)
with_each x [] e m = absurd (Memᴰ.not-nil m)
with_each x (u ∷ vs) {v} e m = ⊎_elim here-v (λ k. later (with_each x vs e k)) (Memᴰ.cases_cons m)
  where
    here-v : v ≡ u → Memᴰ v (with_x x (u ∷ vs))
    here-v k = rw (with-same x u vs (sym (ap (λ (c : Corner). c.x) k) ∙ e)) (Memᴰ.head k)

    later : Memᴰ v (with_x x vs) → Memᴰ v (with_x x (u ∷ vs))
    later k = ⊎_elim (λ d. rw (with-same x u vs d) (Memᴰ.tail k)) (λ d. rw (with-other x u vs d) k) (same-or-other u.x x)

all-with : (P : Corner → Type 0) (x : ℕ) (vs : List Corner) → All P vs → All P (with_x x vs)
unfolding with_x
all-with P x [] a = tt
all-with P x (v ∷ vs) a = go (eqb v.x x) (all-with P x vs a.1)
  where
    go : (b : Bool) → All P (with_x x vs) → All P (cond b (v ∷ with_x x vs) (with_x x vs))
    go true k = (a.0, k)
    go false k = k

with-rising : (x : ℕ) (vs : List Corner) → Rising vs → Rising (with_x x vs)
unfolding with_x
with-rising x [] r = tt
with-rising x (v ∷ vs) r = go (eqb v.x x) (all-with (Precedes v) x vs r.0) (with-rising x vs r.1)
  where
    go : (b : Bool) → All (Precedes v) (with_x x vs) → Rising (with_x x vs) → Rising (cond b (v ∷ with_x x vs) (with_x x vs))
    go true a k = (a, k)
    go false a k = k

-- ---- one x after another
join-none : (n : ℕ) (h : ℕ → List Corner) → ((x : ℕ) → x < n → h x ≡ []) → join n h ≡ []
unfolding join
join-none zero h e = refl
join-none (suc n) h e = rw (join-none n h (λ x l. e x (omega arith)), e n (omega arith))

join-cons : (v : Corner) (n i : ℕ) (g h : ℕ → List Corner) → i < n → ((x : ℕ) → x < i → h x ≡ []) → g i ≡ v ∷ h i → ((x : ℕ) → (x ≡ i → ⊥) → g x ≡ h x) → join n g ≡ v ∷ join n h
unfolding join
join-cons v zero i g h l none here-v else = absurd (omega arith)
join-cons v (suc n) i g h l none here-v else = ⊎_elim last (λ e. earlier e (join-cons v n i g h (omega arith) none here-v else)) (same-or-other i n)
  where
    last : i ≡ n → join n g ++ g n ≡ v ∷ (join n h ++ h n)
    last e = rw (join-none n g (λ x k. else x (λ d. omega arith) ∙ none x (omega arith)), join-none n h (λ x k. none x (omega arith)), ← e, here-v)

    earlier : (i ≡ n → ⊥) → join n g ≡ v ∷ join n h → join n g ++ g n ≡ v ∷ (join n h ++ h n)
    earlier e k = rw (k, else n (λ d. omega (arith, d, e)))

abbrev UpTo : ℕ → Corner → Type 0
UpTo n v = v.x ≤ n

with-parts : (n : ℕ) (vs : List Corner) → All (UpTo n) vs → Rising vs → join (suc n) (λ x. with_x x vs) ≡ vs
unfolding with_x
with-parts n [] a r = join-nil (suc n) (λ x. refl)
with-parts n (v ∷ vs) a r =
    join-cons v (suc n) v.x (λ x. with_x x (v ∷ vs)) (λ x. with_x x vs) (omega (arith, a.0))
    (λ x l. with_none x vs (all_map (From v.x) (From (suc x)) (λ u h. omega arith) vs (rest_from v vs r)))
    (with-same v.x v vs refl) (λ x e. with-other x v vs (λ d. e (sym d)))
    ∙ ap (λ us. v ∷ us) (with-parts n vs a.1 r.1)

-- ---- the bytes of corners
bytes-append : (a b : List Corner) → bytes (a ++ b) ≡ bytes a ++ bytes b
unfolding bytes
bytes-append [] b = refl
bytes-append (v ∷ a) b = rw (bytes-append a b) (sym (append_assoc (corner_record v) (bytes a) (bytes b)))

bytes-join : (n : ℕ) (f : ℕ → List Corner) → join n (λ x. bytes (f x)) ≡ bytes (join n f)
unfolding join bytes
bytes-join zero f = refl
bytes-join (suc n) f = rw (bytes-join n f) (sym (bytes-append (join n f) (f n)))

-- ---- what the software lists
module _ (n : ℕ) (s : Cells) where
  -- the run is all corners with that x
  pub listing-run : (x : ℕ) → first_run x (read_back (listing n s)) ≡ with_x x (corners n s)
  listing-run x = ap (first_run x) (read_back-bytes (corners n s)) ∙ run-with x (corners n s) (corners-rising s n)

  listing-part : (x : ℕ) → part_with (listing n s) x ≡ bytes (with_x x (corners n s))
  listing-part x = part_bytes x (corners n s) ∙ ap bytes (run-with x (corners n s) (corners-rising s n))

  -- its part is their bytes, and they are exactly the corner points with that x, in rising order
  pub listing-section : (x : ℕ) {r : List ℕ} → r ≡ part_with (listing n s) x → SectionOf n s x r
  listing-section x {r} e =
      let is : r ≡ bytes (with_x x (corners n s)) = e ∙ listing-part x in
      let reads : read_back r ≡ with_x x (corners n s) = ap read_back is ∙ read_back-bytes (with_x x (corners n s)) in
      record {
        is = is;
        exactly = λ v. rw reads (
          (λ m. let k = with-only x (corners n s) m in ((corners-exactly n s v).0 k.0, k.1)),
          (λ c. with_each x (corners n s) c.1 ((corners-exactly n s v).1 c.0)),
        );
        rising = rw reads (with-rising x (corners n s) (corners-rising s n));
      }

  -- the parts of x = 0 .. n, one after another, are the listing
  pub listing-parts : join (suc n) (λ x. part_with (listing n s) x) ≡ listing n s
  listing-parts =
      join-ext (suc n) listing-part ∙ (bytes-join (suc n) (λ x. with_x x (corners n s))
      ∙ ap bytes (with-parts n (corners n s) (all_map (IsCorner n s) (UpTo n) (λ v c. c.x_in) (corners n s) (corners-are s n)) (corners-rising s n)))
