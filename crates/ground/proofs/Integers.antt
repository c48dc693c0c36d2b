-- Laws of ℤ beyond lib.IntN: the product distributes over the sum, is associative and takes a sign out; how large sums and products are.
use mathlib.Core.Path.{◌≡◌, refl, sym, ◌∙◌, ap}
use mathlib.Core.Bool.{Bool, true, false, cond}
use Prim.Native.Nat.{ℕ, zero, suc, ◌+◌, ◌-◌, ◌*◌, ◌<◌, ◌≤◌}
use native.Mathlib.Omega.{arith}
use lib.Dec.{T, ltb, ltb→lt, eqb, eqb→eq}
use lib.IntN.{ℤ, pos, negsuc, ◌+ℤ◌, ◌*ℤ◌, neg_ℤ, suc_ℤ, nat_abs, sub_ℕ, +ℤ_assoc, +ℤ_comm, +ℤ_idl, neg_ℤ-+ℤ, neg_ℤ-neg_ℤ, zero-*ℤ, *ℤ_comm, suc_ℤ-*ℤ}

pub +ℤ-swap : (a b c : ℤ) → a +ℤ (b +ℤ c) ≡ b +ℤ (a +ℤ c)
+ℤ-swap a b c = sym (+ℤ_assoc a b c) ∙ ap (λ t. t +ℤ c) (+ℤ_comm a b) ∙ +ℤ_assoc b a c

-- puts the terms of a sum in one order
pub ruleset +ℤ·sort = (+ℤ_assoc, +ℤ_comm, +ℤ-swap)

neg-*ℤ : (a b : ℤ) → neg_ℤ a *ℤ b ≡ neg_ℤ (a *ℤ b)
neg-*ℤ (pos zero) b = simp zero-*ℤ
neg-*ℤ (pos (suc a)) (pos b) = refl
neg-*ℤ (pos (suc a)) (negsuc b) = sym (neg_ℤ-neg_ℤ (pos (suc a * suc b)))
neg-*ℤ (negsuc a) (pos b) = sym (neg_ℤ-neg_ℤ (pos (suc a * b)))
neg-*ℤ (negsuc a) (negsuc b) = refl

pub one-*ℤ : (a : ℤ) → pos 1 *ℤ a ≡ a
one-*ℤ a = suc_ℤ-*ℤ (pos 0) a ∙ ap (λ t. t +ℤ a) (zero-*ℤ a) ∙ +ℤ_idl a

pub minus-one-*ℤ : (a : ℤ) → negsuc 0 *ℤ a ≡ neg_ℤ a
minus-one-*ℤ a = neg-*ℤ (pos 1) a ∙ ap neg_ℤ (one-*ℤ a)

suc-dist : (a b c : ℤ) → a *ℤ (b +ℤ c) ≡ a *ℤ b +ℤ a *ℤ c → suc_ℤ a *ℤ (b +ℤ c) ≡ suc_ℤ a *ℤ b +ℤ suc_ℤ a *ℤ c
suc-dist a b c h = rw (suc_ℤ-*ℤ a (b +ℤ c), suc_ℤ-*ℤ a b, suc_ℤ-*ℤ a c, h) (simp +ℤ·sort)

pos-dist : (n : ℕ) (b c : ℤ) → pos n *ℤ (b +ℤ c) ≡ pos n *ℤ b +ℤ pos n *ℤ c
pos-dist zero b c = simp (zero-*ℤ, +ℤ_idl)
pos-dist (suc n) b c = suc-dist (pos n) b c (pos-dist n b c)

pub *ℤ-dist : (a b c : ℤ) → a *ℤ (b +ℤ c) ≡ a *ℤ b +ℤ a *ℤ c
*ℤ-dist (pos n) b c = pos-dist n b c
*ℤ-dist (negsuc n) b c =
    neg-*ℤ (pos (suc n)) (b +ℤ c)
    ∙ ap neg_ℤ (pos-dist (suc n) b c)
    ∙ neg_ℤ-+ℤ (pos (suc n) *ℤ b) (pos (suc n) *ℤ c)
    ∙ rw (neg-*ℤ (pos (suc n)) b, neg-*ℤ (pos (suc n)) c)

dist-*ℤ : (a b c : ℤ) → (a +ℤ b) *ℤ c ≡ a *ℤ c +ℤ b *ℤ c
dist-*ℤ a b c = rw (*ℤ_comm (a +ℤ b) c, *ℤ_comm a c, *ℤ_comm b c) (*ℤ-dist c a b)

pub *ℤ-neg : (a b : ℤ) → a *ℤ neg_ℤ b ≡ neg_ℤ (a *ℤ b)
*ℤ-neg a b = rw (*ℤ_comm a (neg_ℤ b), *ℤ_comm a b) (neg-*ℤ b a)

pos-assoc : (n : ℕ) (b c : ℤ) → pos n *ℤ b *ℤ c ≡ pos n *ℤ (b *ℤ c)
pos-assoc zero b c = simp zero-*ℤ
pos-assoc (suc n) b c =
    ap (λ t. t *ℤ c) (suc_ℤ-*ℤ (pos n) b)
    ∙ dist-*ℤ (pos n *ℤ b) b c
    ∙ ap (λ t. t +ℤ b *ℤ c) (pos-assoc n b c)
    ∙ sym (suc_ℤ-*ℤ (pos n) (b *ℤ c))

pub *ℤ-assoc : (a b c : ℤ) → a *ℤ b *ℤ c ≡ a *ℤ (b *ℤ c)
*ℤ-assoc (pos n) b c = pos-assoc n b c
*ℤ-assoc (negsuc n) b c =
    ap (λ t. t *ℤ c) (neg-*ℤ (pos (suc n)) b)
    ∙ neg-*ℤ (pos (suc n) *ℤ b) c
    ∙ ap neg_ℤ (pos-assoc (suc n) b c)
    ∙ sym (neg-*ℤ (pos (suc n)) (b *ℤ c))

-- ---- a test of equality that computes
abbrev pub eq_z : ℤ → ℤ → Bool
eq_z (pos a) (pos b) = eqb a b
eq_z (pos a) (negsuc b) = false
eq_z (negsuc a) (pos b) = false
eq_z (negsuc a) (negsuc b) = eqb a b

pub eq_z-at : (a b : ℤ) → T (eq_z a b) → a ≡ b
eq_z-at (pos a) (pos b) t = ap pos (eqb→eq a b t)
eq_z-at (pos a) (negsuc b) t = absurd t
eq_z-at (negsuc a) (pos b) t = absurd t
eq_z-at (negsuc a) (negsuc b) t = ap negsuc (eqb→eq a b t)

-- ---- magnitudes
nat_abs-sub : (a b : ℕ) → nat_abs (sub_ℕ a b) ≤ a + b
nat_abs-sub a b = go (ltb a b) (ltb→lt a b)
  where
    go : (c : Bool) → (T c → a < b) → nat_abs (cond c (negsuc (b - suc a)) (pos (a - b))) ≤ a + b
    go true h = let l : a < b = h tt in omega arith
    go false h = omega arith

pub nat_abs-add : (a b : ℤ) → nat_abs (a +ℤ b) ≤ nat_abs a + nat_abs b
nat_abs-add (pos a) (pos b) = omega arith
nat_abs-add (pos a) (negsuc b) = nat_abs-sub a (suc b)
nat_abs-add (negsuc a) (pos b) = omega (arith, nat_abs-sub b (suc a))
nat_abs-add (negsuc a) (negsuc b) = omega arith

nat_abs-neg : (a : ℤ) → nat_abs (neg_ℤ a) ≡ nat_abs a
nat_abs-neg (pos zero) = refl
nat_abs-neg (pos (suc a)) = refl
nat_abs-neg (negsuc a) = refl

pub nat_abs_mul : (a b : ℤ) → nat_abs (a *ℤ b) ≡ nat_abs a * nat_abs b
nat_abs_mul (pos a) (pos b) = refl
nat_abs_mul (pos a) (negsuc b) = nat_abs-neg (pos (a * suc b))
nat_abs_mul (negsuc a) (pos b) = nat_abs-neg (pos (suc a * b))
nat_abs_mul (negsuc a) (negsuc b) = refl
