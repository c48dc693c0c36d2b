-- A list with counts added place by place: twice, at one place, and how much room is left.
use mathlib.Core.Path.{◌≡◌, refl, sym, ap, ◌∙◌, fun_ext}
use mathlib.Core.Bool.{Bool, true, false, cond}
use mathlib.Core.List.{List}
use Prim.Native.Nat.{ℕ, ◌+◌, ◌≤◌, ◌<◌}
use native.Mathlib.Nat.{add-zero, add_assoc}
use native.Mathlib.Omega.{arith}
use lib.Dec.{eqb, ltb}
use lib.ListN.{length, get_or, set, length-set, get_or-eq_default}
use lib.Seq.{ext_get_or, get_or-set_same, get_or-set_other}
use borrow.Author.Tests.{eqb-true, eqb-false, ltb-true, ltb-false}
use Rattle.ground.proofs.JoinLaws.{singles-length, singles-at}
use Rattle.crediting_carving.specs.Blocks.{added, only, RoomFor}

module _ (l : List ℕ) (f : ℕ → ℕ) where
  added-length : length (added l f) ≡ length l
  unfolding added
  added-length = singles-length (λ s. get_or l s 0 + f s) (length l)

  pub added-keeps : {m : List ℕ} → m ≡ added l f → length m ≡ length l
  added-keeps e = ap length e ∙ added-length

  added-at : (s : ℕ) → s < length l → get_or (added l f) s 0 ≡ get_or l s 0 + f s
  unfolding added
  added-at s h = singles-at (λ s. get_or l s 0 + f s) (length l) s h

  -- a list that has these counts more
  added_is : (m : List ℕ) → length m ≡ length l → ((s : ℕ) → s < length l → get_or m s 0 ≡ get_or l s 0 + f s) → m ≡ added l f
  added_is m e h =
      ext_get_or 0 m (added l f) (e ∙ sym added-length) λ s k. let in-l : s < length l = omega (arith, k, e) in h s in-l ∙ sym (added-at s in-l)

  pub added_none : ((s : ℕ) → f s ≡ 0) → l ≡ added l f
  added_none h = added_is l refl λ s k. rw (h s, add-zero (get_or l s 0))

  pub added-agree : (g : ℕ → ℕ) → ((s : ℕ) → f s ≡ g s) → added l f ≡ added l g
  added-agree g h = ap (added l) (fun_ext h)

-- one after the other
pub added_more : (l : List ℕ) (f g : ℕ → ℕ) → added (added l f) g ≡ added l (λ s. f s + g s)
added_more l f g =
    added_is l (λ s. f s + g s) (added (added l f) g) (added-length (added l f) g ∙ added-length l f) λ s h.
    added-at (added l f) g s (omega (arith, h, added-length l f)) ∙ (ap (λ (n : ℕ). n + g s) (added-at l f s h) ∙ add_assoc (get_or l s 0) (f s) (g s))

-- one place
pub set-added : (l : List ℕ) (t n : ℕ) → t < length l → set l t (get_or l t 0 + n) ≡ added l (only t n)
set-added l t n h = added_is l (only t n) (set l t (get_or l t 0 + n)) (length-set l t (get_or l t 0 + n)) λ s k. one s (eqb t s) refl
  where
    one : (s : ℕ) (b : Bool) → eqb t s ≡ b → get_or (set l t (get_or l t 0 + n)) s 0 ≡ get_or l s 0 + cond b n 0
    one s true e =
        let same : t ≡ s = eqb-true t s e in
        rw (← same) (get_or-set_same l t (get_or l t 0 + n) 0 h)
    one s false e = rw (add-zero (get_or l s 0)) (get_or-set_other l t s (get_or l t 0 + n) 0 (λ same. eqb-false t s e (sym same)))

-- ---- room

pub room-less : (n m : ℕ) (l : List ℕ) → m ≤ n → RoomFor n l → RoomFor m l
room-less n m l h r = record { at = λ s. omega (arith, r.at s) }

-- a count takes of the room as much as it is
pub room-added : (n m : ℕ) (l : List ℕ) (f : ℕ → ℕ) → ((s : ℕ) → f s + m ≤ n) → RoomFor n l → RoomFor m (added l f)
room-added n m l f h r = record { at = λ s. one s (ltb s (length l)) refl }
  where
    one : (s : ℕ) (b : Bool) → ltb s (length l) ≡ b → get_or (added l f) s 0 + m ≤ 1073741824
    one s true e = omega (arith, added-at l f s (ltb-true s (length l) e), h s, r.at s)
    one s false e = omega (arith, get_or-eq_default (added l f) 0 {n = s} (omega (arith, added-length l f, ltb-false s (length l) e)), h s, r.at s)
