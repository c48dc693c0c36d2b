-- Sums of signed numbers: they keep sums, differences and factors; summation by parts; a sum in which one term counts.
use mathlib.Core.Path.{◌≡◌, refl, sym, ◌∙◌, ap, fun_ext}
use mathlib.Core.Bool.{Bool, true, false, cond}
use Prim.Native.Nat.{ℕ, zero, suc, ◌+◌, ◌-◌, ◌≤◌}
use native.Mathlib.Nat.{zero-add, suc-add}
use native.Mathlib.Decide.{dec_le}
use native.Mathlib.Omega.{arith}
use lib.Dec.{T, eqb, eqb→eq, eqb_refl}
use lib.IntN.{ℤ, pos, ◌+ℤ◌, ◌-ℤ◌, ◌*ℤ◌, neg_ℤ, suc_ℤ, +ℤ_assoc, +ℤ_idl, +ℤ_idr, +ℤ_invr, neg_ℤ-+ℤ, neg_ℤ-neg_ℤ, zero-*ℤ, *ℤ-zero, suc_ℤ-*ℤ, -ℤ-+ℤ_cancel}
use Rattle.ground.specs.Sums.{total, sum}
use Rattle.ground.proofs.Integers.{+ℤ·sort, *ℤ-dist}

pub sum-ext : (n : ℕ) {f g : ℕ → ℤ} → ((i : ℕ) → f i ≡ g i) → sum n f ≡ sum n g
sum-ext n h = ap (sum n) (fun_ext h)

pub sum-total : (n : ℕ) (f : ℕ → ℕ) → sum n (λ i. pos (f i)) ≡ pos (total n f)
unfolding sum total
sum-total zero f = refl
sum-total (suc n) f = ap (λ s. s +ℤ pos (f n)) (sum-total n f)

pub sum-add : (n : ℕ) (f g : ℕ → ℤ) → sum n (λ i. f i +ℤ g i) ≡ sum n f +ℤ sum n g
unfolding sum
sum-add zero f g = refl
sum-add (suc n) f g = rw (sum-add n f g) (simp +ℤ·sort)

sum-neg : (n : ℕ) (f : ℕ → ℤ) → sum n (λ i. neg_ℤ (f i)) ≡ neg_ℤ (sum n f)
unfolding sum
sum-neg zero f = refl
sum-neg (suc n) f = rw (sum-neg n f, neg_ℤ-+ℤ)

pub sum-sub : (n : ℕ) (f g : ℕ → ℤ) → sum n (λ i. f i -ℤ g i) ≡ sum n f -ℤ sum n g
sum-sub n f g = sum-add n f (λ i. neg_ℤ (g i)) ∙ ap (λ s. sum n f +ℤ s) (sum-neg n g)

pub sum-scale : (n : ℕ) (c : ℤ) (f : ℕ → ℤ) → sum n (λ i. c *ℤ f i) ≡ c *ℤ sum n f
unfolding sum
sum-scale zero c f = sym (*ℤ-zero c)
sum-scale (suc n) c f = rw (sum-scale n c f, *ℤ-dist)

sum-zero : (n : ℕ) {f : ℕ → ℤ} → ((i : ℕ) → f i ≡ pos 0) → sum n f ≡ pos 0
unfolding sum
sum-zero zero h = refl
sum-zero (suc n) h = rw (sum-zero n h, h n)

-- the value at a place less the value at the next
abbrev pub fall : (ℕ → ℤ) → ℕ → ℤ
fall f x = f x -ℤ f (suc x)

-- summation by parts, with the term that is left at the upper end
parts-step : (s n a b : ℤ) → s +ℤ suc_ℤ n *ℤ (a -ℤ b) +ℤ suc_ℤ n *ℤ b ≡ s +ℤ n *ℤ a +ℤ a
parts-step s n a b =
    rw (+ℤ_assoc s (suc_ℤ n *ℤ (a -ℤ b)) (suc_ℤ n *ℤ b), ← *ℤ-dist (suc_ℤ n) (a -ℤ b) b, -ℤ-+ℤ_cancel a b, suc_ℤ-*ℤ n a)
    (sym (+ℤ_assoc s (n *ℤ a) a))

parts-rest : (n : ℕ) (f : ℕ → ℤ) → sum (suc n) (λ x. pos x *ℤ fall f x) +ℤ pos n *ℤ f (suc n) ≡ sum n (λ x. f (suc x))
unfolding sum
parts-rest zero f = simp (zero-*ℤ, +ℤ_idl)
parts-rest (suc n) f =
    parts-step (sum (suc n) (λ x. pos x *ℤ fall f x)) (pos n) (f (suc n)) (f (suc (suc n)))
    ∙ ap (λ s. s +ℤ f (suc n)) (parts-rest n f)

pub sum-by-parts : (n : ℕ) (f : ℕ → ℤ) → f (suc n) ≡ pos 0 → sum (suc n) (λ x. pos x *ℤ fall f x) ≡ sum n (λ x. f (suc x))
sum-by-parts n f h = sym (rw (h, *ℤ-zero, +ℤ_idr)) ∙ parts-rest n f

-- ---- a function by its falls
sub-sub : (a b : ℤ) → a -ℤ (a -ℤ b) ≡ b
sub-sub a b = rw (neg_ℤ-+ℤ, neg_ℤ-neg_ℤ, ← +ℤ_assoc a (neg_ℤ a) b, +ℤ_invr, +ℤ_idl)

-- a function of ℕ is known by its value at 0 and its falls
pub known-by-falls : (f g : ℕ → ℤ) → f 0 ≡ g 0 → ((x : ℕ) → fall f x ≡ fall g x) → (x : ℕ) → f x ≡ g x
known-by-falls f g z h zero = z
known-by-falls f g z h (suc x) = sym (sub-sub (f x) (f (suc x))) ∙ rw (h x, known-by-falls f g z h x) (sub-sub (g x) (g (suc x)))

-- ---- a sum in which one term counts, that of place a
abbrev pub pick : ℕ → ℕ → ℤ → ℤ
pick a i v = cond (eqb a i) v (pos 0)

pub cond-zero : (b : Bool) {v : ℤ} → v ≡ pos 0 → cond b v (pos 0) ≡ pos 0
cond-zero true h = h
cond-zero false h = refl

pub sum-cond : (b : Bool) (n : ℕ) (f : ℕ → ℤ) → sum n (λ i. cond b (f i) (pos 0)) ≡ cond b (sum n f) (pos 0)
sum-cond true n f = refl
sum-cond false n f = sum-zero n (λ i. refl)

pick_other : (a i : ℕ) (v : ℤ) → (a ≡ i → ⊥) → pick a i v ≡ pos 0
pick_other a i v h = go (eqb a i) (λ t. h (eqb→eq a i t))
  where
    go : (b : Bool) → (T b → ⊥) → cond b v (pos 0) ≡ pos 0
    go true f = absurd (f tt)
    go false f = refl

pick_same : (a : ℕ) (v : ℤ) → pick a a v ≡ v
pick_same a v = go (eqb a a) (eqb_refl a)
  where
    go : (b : Bool) → T b → cond b v (pos 0) ≡ v
    go true t = refl
    go false t = absurd t

sum-before : (n a : ℕ) (f : ℕ → ℤ) → n ≤ a → sum n (λ i. pick a i (f i)) ≡ pos 0
unfolding sum
sum-before zero a f h = refl
sum-before (suc n) a f h = rw (sum-before n a f (omega arith), pick_other a n (f n) (λ e. omega arith))

sum_past : (k a : ℕ) (f : ℕ → ℤ) → sum (k + suc a) (λ i. pick a i (f i)) ≡ f a
unfolding sum
sum_past zero a f = rw (zero-add, sum-before a a f (omega arith), pick_same a (f a), +ℤ_idl)
sum_past (suc k) a f = rw (suc-add k (suc a), sum_past k a f, pick_other a (k + suc a) (f (k + suc a)) (λ e. omega arith), +ℤ_idr)

pub sum-pick : (n a : ℕ) (f : ℕ → ℤ) → ((i : ℕ) → n ≤ i → f i ≡ pos 0) → sum n (λ i. pick a i (f i)) ≡ f a
sum-pick n a f h = go (dec_le n a)
  where
    go : Dec (n ≤ a) → sum n (λ i. pick a i (f i)) ≡ f a
    go (yes le) = sum-before n a f le ∙ sym (h a le)
    go (no gt) = let e : n - suc a + suc a ≡ n = omega arith in ap (λ k. sum k (λ i. pick a i (f i))) (sym e) ∙ sum_past (n - suc a) a f
