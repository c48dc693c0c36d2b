-- What a list of tests decides: when it accepts, and when it gives each refusal. A call's tests are put together by these laws, a line a
-- test: tests that say conditions, one test alone, one list behind another, and so a test behind a list, in front of it or between two; and
-- a call that answers by them decides as they do. Assumes nothing.
use mathlib.Core.Path.{◌≡◌, refl, sym, ap, ◌∙◌}
use mathlib.Core.Bool.{Bool, true, false, cond}
use mathlib.Core.List.{List, [], ◌∷◌, ◌++◌}
use mathlib.Core.Logic.{◌↔◌, ◌⊎◌, inl, inr}
use Prim.Native.Nat.{ℕ, ◌≤◌, ◌<◌}
use borrow.Author.Tests.{ltb-true, ltb-false, lt-ltb, le-ltb}
use Rattle.refusals.specs.declared.Refusal.{Refusal}
use Rattle.refusals.specs.Tests.{Test, length_test, first_of}
use Rattle.refusals.specs.Deciding.{Each, Says, First, Gives, Decides}
use Rattle.refusals.proofs.FirstOf.{apart, first-passed, first-stopped, first-iff, none-iff}
use Rattle.refusals.specs.Refusals.{Checked}
use Rattle.std.specs.Prelude.{Ok, Err}

-- ---- tests that say conditions
pub decides-by : (condition : Refusal → Type 0) (ts : List Test) → Each (Says condition) ts → Decides ts (Each (λ t. ¬ condition t.gives) ts) (First condition ts)
decides-by condition ts s = record { accepted = none-iff condition ts s; refused = first-iff condition ts s }

-- ---- one test alone, by what it says where it holds and where it does not
pub decides-test : (t : Test) {passes fails : Type 0} → (t.holds ≡ false) ↔ passes → (t.holds ≡ true) ↔ fails → Decides (t ∷ []) passes (Gives fails t.gives)
unfolding first_of
decides-test t {passes} {fails} p f = record {
  accepted = (λ e. p.0 (passing t.holds e), λ h. rw (p.1 h));
  refused = λ r. (λ e. failing r t.holds refl e, λ g. rw (f.1 g.holds) (ap Err g.is));
}
  where
    passing : (b : Bool) → ◌≡◌ {A = Checked} (cond b (Err t.gives) (Ok tt)) (Ok tt) → b ≡ false
    passing true e = apart e
    passing false e = refl

    failing : (r : Refusal) (b : Bool) → t.holds ≡ b → ◌≡◌ {A = Checked} (cond b (Err t.gives) (Ok tt)) (Err r) → Gives fails t.gives r
    failing r true h e = record { holds = f.0 h; is = cc }
    failing r false h e = apart (sym e)

-- a test of length
pub decides-length : (room need : ℕ) (gives : Refusal) → Decides (length_test room need gives ∷ []) (need ≤ room) (Gives (room < need) gives)
decides-length room need gives =
    decides-test (length_test room need gives) (ltb-false room need, le-ltb room need) (ltb-true room need, lt-ltb room need)

-- ---- one list of tests behind another: all pass exactly if both do, and a refusal is that of the first or, where that passes, of the second
module _ (ts us : List Test) where
  both-accepted : (first_of (ts ++ us) ≡ Ok tt) ↔ ((first_of ts ≡ Ok tt) × (first_of us ≡ Ok tt))
  both-accepted = (to (first_of ts) refl, λ h. first-passed us ts h.0 ∙ h.1)
    where
      to : (c : Checked) → first_of ts ≡ c → first_of (ts ++ us) ≡ Ok tt → (first_of ts ≡ Ok tt) × (first_of us ≡ Ok tt)
      to (Err r) k e = apart (sym (first-stopped us ts k) ∙ e)
      to (Ok tt) k e = (k, sym (first-passed us ts k) ∙ e)

  either-refused : (r : Refusal) → (first_of (ts ++ us) ≡ Err r) ↔ ((first_of ts ≡ Err r) ⊎ ((first_of ts ≡ Ok tt) × (first_of us ≡ Err r)))
  either-refused r = (to (first_of ts) refl, from)
    where
      to : (c : Checked) → first_of ts ≡ c → first_of (ts ++ us) ≡ Err r → (first_of ts ≡ Err r) ⊎ ((first_of ts ≡ Ok tt) × (first_of us ≡ Err r))
      to (Err q) k e = inl (k ∙ sym (first-stopped us ts k) ∙ e)
      to (Ok tt) k e = inr (k, sym (first-passed us ts k) ∙ e)

      from : (first_of ts ≡ Err r) ⊎ ((first_of ts ≡ Ok tt) × (first_of us ≡ Err r)) → first_of (ts ++ us) ≡ Err r
      from (inl e) = first-stopped us ts e
      from (inr (a, e)) = first-passed us ts a ∙ e

module _ {ts : List Test} {accepts : Type 0} {refuses : Refusal → Type 0} (d : Decides ts accepts refuses) where
  pub decides-then : {us : List Test} {accepts₂ : Type 0} {refuses₂ : Refusal → Type 0} → Decides us accepts₂ refuses₂
      → Decides (ts ++ us) (accepts × accepts₂) (λ r. refuses r ⊎ (accepts × refuses₂ r))
  decides-then {us} {accepts₂} {refuses₂} d₂ = record {
    accepted = let b = both-accepted ts us in (λ e. (d.accepted.0 (b.0 e).0, d₂.accepted.0 (b.0 e).1), λ h. b.1 (d.accepted.1 h.0, d₂.accepted.1 h.1));
    refused = λ r. (λ e. to r ((either-refused ts us r).0 e), λ h. (either-refused ts us r).1 (from r h));
  }
    where
      to : (r : Refusal) → (first_of ts ≡ Err r) ⊎ ((first_of ts ≡ Ok tt) × (first_of us ≡ Err r)) → refuses r ⊎ (accepts × refuses₂ r)
      to r (inl e) = inl ((d.refused r).0 e)
      to r (inr (a, e)) = inr (d.accepted.0 a, (d₂.refused r).0 e)

      from : (r : Refusal) → refuses r ⊎ (accepts × refuses₂ r) → (first_of ts ≡ Err r) ⊎ ((first_of ts ≡ Ok tt) × (first_of us ≡ Err r))
      from r (inl f) = inl ((d.refused r).1 f)
      from r (inr (a, f)) = inr (d.accepted.1 a, (d₂.refused r).1 f)

  -- the same tests, in other words
  pub decides-as : {accepts₂ : Type 0} {refuses₂ : Refusal → Type 0} → accepts ↔ accepts₂ → ((r : Refusal) → refuses r ↔ refuses₂ r) → Decides ts accepts₂ refuses₂
  decides-as a f = record {
    accepted = (λ e. a.0 (d.accepted.0 e), λ h. d.accepted.1 (a.1 h));
    refused = λ r. (λ e. (f r).0 ((d.refused r).0 e), λ h. (d.refused r).1 ((f r).1 h));
  }

  -- a test of length behind them
  pub decides-more : (room need : ℕ) (gives : Refusal)
      → Decides (ts ++ length_test room need gives ∷ []) (accepts × (need ≤ room)) (λ r. refuses r ⊎ (accepts × Gives (room < need) gives r))
  decides-more room need gives = decides-then (decides-length room need gives)

  -- a call that answers by them
  module _ {c : Checked} (answer : c ≡ first_of ts) where
    pub call-accepts : (c ≡ Ok tt) ↔ accepts
    call-accepts = (λ e. d.accepted.0 (sym answer ∙ e), λ a. answer ∙ d.accepted.1 a)

    pub call-refuses : (r : Refusal) → (c ≡ Err r) ↔ refuses r
    call-refuses r = (λ e. (d.refused r).0 (sym answer ∙ e), λ f. answer ∙ (d.refused r).1 f)

-- a test of length in front of them, or between two lists
module _ {us : List Test} {accepts₂ : Type 0} {refuses₂ : Refusal → Type 0} (d₂ : Decides us accepts₂ refuses₂) (room need : ℕ) (gives : Refusal) where
  pub decides-before : Decides (length_test room need gives ∷ us) ((need ≤ room) × accepts₂) (λ r. Gives (room < need) gives r ⊎ ((need ≤ room) × refuses₂ r))
  decides-before = decides-then (decides-length room need gives) d₂

  pub decides-between : {ts : List Test} {accepts : Type 0} {refuses : Refusal → Type 0} → Decides ts accepts refuses
      → Decides (ts ++ length_test room need gives ∷ us) (accepts × ((need ≤ room) × accepts₂)) (λ r. refuses r ⊎ (accepts × (Gives (room < need) gives r ⊎ ((need ≤ room) × refuses₂ r))))
  decides-between d = decides-then d decides-before
