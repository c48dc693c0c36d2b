-- Of a list of tests the first that holds decides: what that means by place, whatever the tests are. Assumes nothing.
use mathlib.Core.Path.{◌≡◌, refl, sym, ap, subst, ◌∙◌}
use mathlib.Core.Bool.{Bool, true, false, cond, true≢false}
use mathlib.Core.List.{List, [], ◌∷◌, ◌++◌}
use mathlib.Core.Logic.{◌↔◌}
use Prim.Native.Nat.{ℕ}
use native.Mathlib.Omega.{arith}
use Rattle.refusals.specs.declared.Refusal.{Refusal}
use Rattle.refusals.specs.Refusals.{checked_numbers, Checked}
use Rattle.refusals.specs.Tests.{Test, first_of, first_numbers, Checks}
use Rattle.refusals.specs.Deciding.{Each, Says, First}
use Rattle.std.specs.Prelude.{Ok, Err}

pub apart : {P : Type 0} {r : Refusal} → ◌≡◌ {A = Checked} (Err r) (Ok tt) → P
apart e = let z : ◌≡◌ {A = ℕ} 0 1 = cc in absurd (omega arith)

-- ---- one test after another
pub first-here : (t : Test) (ts : List Test) → t.holds ≡ true → Err t.gives ≡ first_of (t ∷ ts)
unfolding first_of
first-here t ts h = rw h

pub first_next : (t : Test) (ts : List Test) → t.holds ≡ false → {c : Checked} → c ≡ first_of ts → c ≡ first_of (t ∷ ts)
unfolding first_of
first_next t ts h e = rw h e

pub first-none : Ok tt ≡ first_of []
unfolding first_of
first-none = refl

-- ---- one list of tests after another
module _ (us : List Test) where
  pub first-passed : (ts : List Test) → first_of ts ≡ Ok tt → first_of (ts ++ us) ≡ first_of us
  unfolding first_of
  first-passed [] e = refl
  first-passed (t ∷ ts) e = go t.holds e (first-passed ts)
    where
      go : (b : Bool) → cond b (Err t.gives) (first_of ts) ≡ Ok tt → (first_of ts ≡ Ok tt → first_of (ts ++ us) ≡ first_of us) → cond b (Err t.gives) (first_of (ts ++ us)) ≡ first_of us
      go true e f = apart e
      go false e f = f e

  pub first-stopped : (ts : List Test) {r : Refusal} → first_of ts ≡ Err r → first_of (ts ++ us) ≡ Err r
  unfolding first_of
  first-stopped [] e = apart (sym e)
  first-stopped (t ∷ ts) {r} e = go t.holds e (first-stopped ts)
    where
      go : (b : Bool) → cond b (Err t.gives) (first_of ts) ≡ Err r → (first_of ts ≡ Err r → first_of (ts ++ us) ≡ Err r) → cond b (Err t.gives) (first_of (ts ++ us)) ≡ Err r
      go true e f = e
      go false e f = f e

-- ---- the numbers of an answer are those of the first test that holds
first-numbers : (ts : List Test) → checked_numbers (first_of ts) ≡ first_numbers ts
unfolding first_of first_numbers checked_numbers
first-numbers [] = refl
first-numbers (t ∷ ts) = go t.holds (first-numbers ts)
  where
    go : (b : Bool) → checked_numbers (first_of ts) ≡ first_numbers ts → checked_numbers (cond b (Err t.gives) (first_of ts)) ≡ first_numbers (record { holds = b; gives = t.gives } ∷ ts)
    go true e = refl
    go false e = e

pub checks : (ts : List Test) {r : Checked} → r ≡ first_of ts → Checks ts r
checks ts e = record { answer = e; numbers = ap checked_numbers e ∙ first-numbers ts }

-- ---- a list of tests that all pass
pub passes : (ts : List Test) → (first_of ts ≡ Ok tt) ↔ Each (λ t. t.holds ≡ false) ts
unfolding first_of
passes [] = (λ e. tt, λ e. refl)
passes (t ∷ ts) = (λ e. to t.holds refl e (passes ts).0, λ p. rw p.0 ((passes ts).1 p.1))
  where
    to : (b : Bool) → t.holds ≡ b → cond b (Err t.gives) (first_of ts) ≡ Ok tt → (first_of ts ≡ Ok tt → Each (λ t. t.holds ≡ false) ts) → (t.holds ≡ false) × Each (λ t. t.holds ≡ false) ts
    to true h e f = apart e
    to false h e f = (h, f e)

-- ---- tests that say conditions
module _ (condition : Refusal → Type 0) where
  refutes : (t : Test) → Says condition t → t.holds ≡ false → ¬ condition t.gives
  refutes t s h c = true≢false (sym (s.1 c) ∙ h)

  -- the refusal that is given has a condition that holds, and that of no test before it does
  first-given : (ts : List Test) → Each (Says condition) ts → (r : Refusal) → first_of ts ≡ Err r → First condition ts r
  unfolding first_of
  first-given [] s r e = apart (sym e)
  first-given (t ∷ ts) s r e = go t.holds refl e (first-given ts s.1 r)
    where
      go : (b : Bool) → t.holds ≡ b → cond b (Err t.gives) (first_of ts) ≡ Err r → (first_of ts ≡ Err r → First condition ts r) → First condition (t ∷ ts) r
      go true h k later =
          let g : t.gives ≡ r = cc in
          record { before = []; here = t; after = ts; is = refl; none_before = tt; gives_it = g; holds = subst condition g (s.0.0 h) }
      go false h k later =
          let f = later k in
          record {
            before = t ∷ f.before;
            here = f.here;
            after = f.after;
            is = ap (λ (l : List Test). t ∷ l) f.is;
            none_before = (refutes t s.0 h, f.none_before);
            gives_it = f.gives_it;
            holds = f.holds;
          }

  given-first : (before : List Test) (here : Test) (after : List Test) → Each (Says condition) (before ++ here ∷ after) → Each (λ t. ¬ condition t.gives) before → condition here.gives → first_of (before ++ here ∷ after) ≡ Err here.gives
  unfolding first_of
  given-first [] here after s n c = rw (s.0.1 c)
  given-first (t ∷ before) here after s n c = go t.holds refl (given-first before here after s.1 n.1 c)
    where
      go : (b : Bool) → t.holds ≡ b → first_of (before ++ here ∷ after) ≡ Err here.gives → cond b (Err t.gives) (first_of (before ++ here ∷ after)) ≡ Err here.gives
      go true h later = absurd (n.0 (s.0.0 h))
      go false h later = later

  pub first-iff : (ts : List Test) → Each (Says condition) ts → (r : Refusal) → (first_of ts ≡ Err r) ↔ First condition ts r
  first-iff ts s r = (first-given ts s r, from)
    where
      from : First condition ts r → first_of ts ≡ Err r
      from f =
          ap first_of f.is
          ∙ given-first f.before f.here f.after (subst (Each (Says condition)) f.is s) f.none_before (subst condition (sym f.gives_it) f.holds)
          ∙ ap Err f.gives_it

  -- where no condition holds, that of no test does
  pub none_each : ((q : Refusal) → ¬ condition q) → (ts : List Test) → Each (λ t. ¬ condition t.gives) ts
  none_each n [] = tt
  none_each n (t ∷ ts) = (n t.gives, none_each n ts)

  pub none-iff : (ts : List Test) → Each (Says condition) ts → (first_of ts ≡ Ok tt) ↔ Each (λ t. ¬ condition t.gives) ts
  unfolding first_of
  none-iff [] s = (λ e. tt, λ n. refl)
  none-iff (t ∷ ts) s = (to t.holds refl (none-iff ts s.1).0, λ n. from n ((none-iff ts s.1).1 n.1) t.holds refl)
    where
      to : (b : Bool) → t.holds ≡ b → (first_of ts ≡ Ok tt → Each (λ t. ¬ condition t.gives) ts) → cond b (Err t.gives) (first_of ts) ≡ Ok tt → (¬ condition t.gives) × Each (λ t. ¬ condition t.gives) ts
      to true h f e = apart e
      to false h f e = (refutes t s.0 h, f e)

      from : (¬ condition t.gives) × Each (λ t. ¬ condition t.gives) ts → first_of ts ≡ Ok tt → (b : Bool) → t.holds ≡ b → cond b (Err t.gives) (first_of ts) ≡ Ok tt
      from n later true h = absurd (n.0 (s.0.0 h))
      from n later false h = later
