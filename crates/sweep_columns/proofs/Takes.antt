-- Corners of the largest field take room, each for one.
use mathlib.Core.Path.{◌≡◌, refl, sym, subst}
use mathlib.Core.Bool.{Bool, true, false, cond}
use mathlib.Core.List.{List, [], ◌∷◌, ◌++◌}
use Prim.Native.Nat.{ℕ, zero, suc, ◌+◌, ◌*◌, ◌<◌, ◌≤◌}
use native.Mathlib.Nat.{suc-mul}
use native.Mathlib.Omega.{arith}
use Rattle.ground.specs.Sums.{join}
use Rattle.lattice.specs.Listing.{Corner}
use Rattle.lattice_sums.specs.CornerSums.{Room}
use Rattle.lattice_sums.proofs.CornerSumLaws.{room-more}
use Rattle.sweep_tally.specs.Found.{corner_of, Found, found}
use Rattle.sweep_tally.proofs.FoundLaws.{found-append, found-one, room-meet}

-- to meet these corners takes room for m
pub record Takes (m : ℕ) (vs : List Corner) : Type 0 where
  pub room : (g : Found) (n : ℕ) → Room g.sums n → Room (found g vs).sums (n + m)

takes_none : Takes 0 []
unfolding found
takes_none = record { room = λ g n r. room-more g.sums n (n + 0) (omega arith) r }

pub takes-more : {a b : ℕ} {vs : List Corner} → a ≤ b → Takes a vs → Takes b vs
takes-more {a} {b} {vs} h t = record { room = λ g n r. room-more (found g vs).sums (n + a) (n + b) (omega arith) (t.room g n r) }

takes-both : {a b : ℕ} {v w : List Corner} → Takes a v → Takes b w → Takes (a + b) (v ++ w)
takes-both {a} {b} {v} {w} s t = record {
  room = λ g n r. subst (λ (h : Found). Room h.sums (n + (a + b))) (sym (found-append g v w))
      (room-more (found (found g v) w).sums (n + a + b) (n + (a + b)) (omega arith) (t.room (found g v) (n + a) (s.room g n r)));
}

pub takes-join : (m n : ℕ) (f : ℕ → List Corner) → ((i : ℕ) → i < n → Takes m (f i)) → Takes (n * m) (join n f)
unfolding join
takes-join m zero f h = takes-more (omega arith) takes_none
takes-join m (suc n) f h =
    takes-more (omega (arith, suc-mul n m)) (takes-both (takes-join m n f (λ i l. h i (omega arith))) (h n (omega arith)))

-- a point that is a corner only in the largest field
pub takes-point : (c : Bool) (x y z p : ℕ) → x ≤ 1024 → y ≤ 1024 → (c ≡ true → z ≤ 1024) → Takes 1 (cond c (corner_of x y z p ∷ []) [])
takes-point true x y z p hx hy hz = record {
  room = λ g n r. subst (λ (h : Found). Room h.sums (n + 1)) (sym (found-one g (corner_of x y z p)))
      (room-meet g (corner_of x y z p) n hx hy (hz refl) r);
}
takes-point false x y z p hx hy hz = takes-more (omega arith) takes_none

-- the room that is left
pub room-left : (f : Found) {g : Found} {m n : ℕ} (vs : List Corner) (k : ℕ) → g ≡ found f vs → Takes m vs → Room f.sums n → n + m ≤ k
    → Room g.sums k
room-left f {g} {m} {n} vs k e s h l =
    room-more g.sums (n + m) k l (subst (λ (i : Found). Room i.sums (n + m)) (sym e) (s.room f n h))
