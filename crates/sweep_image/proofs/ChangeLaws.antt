-- Words changed one after the other.
use mathlib.Core.Path.{◌≡◌, refl, ◌∙◌, ap}
use mathlib.Core.Bool.{Bool, true, false}
use mathlib.Core.List.{List, map}
use Prim.Native.Nat.{ℕ, ◌+◌, ◌-◌, ◌≤◌, ◌<◌}
use native.Mathlib.Omega.{arith}
use lib.Dec.{ltb}
use lib.ListN.{length, get_or, set, take, drop, length-set}
use lib.Seq.{get_or-set_same, get_or-set_other}
use borrow.Author.Tests.{ltb-true, ltb-false}
use borrow.Rule.Slice.PartMut.{put_mid}
use Rattle.std.proofs.lemmas.List.{length-append, length-drop, length-map, length-take-le, get_or_append_left, get_or-append_right, get_or-take, get_or-drop, get_or-map}
use Rattle.sweep_image.specs.Changes.{Changed}

-- a run after a run
pub changed-join : {g : ℕ → ℕ → ℕ} {a b c : ℕ} {w w' w'' : List ℕ} → a ≤ b → b ≤ c → Changed g a b w w' → Changed g b c w' w''
    → Changed g a c w w''
changed-join {g} {a} {b} {c} {w} {w'} {w''} h k d e = record {
  same_size = e.same_size ∙ d.same_size;
  within = λ i l m. inside i l m (ltb i b) refl;
  before = λ i l. e.before i (omega arith) ∙ d.before i l;
  past = λ i l. e.past i l ∙ d.past i (omega arith);
}
  where
    inside : (i : ℕ) → a ≤ i → i < c → (t : Bool) → ltb i b ≡ t → get_or w'' i 0 ≡ g i (get_or w i 0)
    inside i l m true q = e.before i (ltb-true i b q) ∙ d.within i l (ltb-true i b q)
    inside i l m false q = e.within i (ltb-false i b q) m ∙ ap (g i) (d.past i (ltb-false i b q))

-- one word
pub changed-one : {g : ℕ → ℕ → ℕ} (i : ℕ) (w : List ℕ) (v : ℕ) → i < length w → v ≡ g i (get_or w i 0) → Changed g i (i + 1) w (set w i v)
changed-one {g} i w v h e = record {
  same_size = length-set w i v;
  within = λ j l m. let same : j ≡ i = omega arith in rw same (get_or-set_same w i v 0 h ∙ e);
  before = λ j l. get_or-set_other w i j v 0 (λ q. omega arith);
  past = λ j l. get_or-set_other w i j v 0 (λ q. omega arith);
}

-- one word more
pub changed-more : {g : ℕ → ℕ → ℕ} {a i : ℕ} {w w' : List ℕ} (v : ℕ) → a ≤ i → i < length w → v ≡ g i (get_or w' i 0)
    → Changed g a i w w' → Changed g a (i + 1) w (set w' i v)
changed-more {g} {a} {i} {w} {w'} v h k e d =
    changed-join h (omega arith) d (changed-one i w' v (let s : length w' ≡ length w = d.same_size in omega arith) e)

-- the words of a part of the list
pub changed-part : {g : ℕ → ℕ → ℕ} {a b : ℕ} (w part : List ℕ) → a ≤ b → b ≤ length w → length part ≡ b - a
    → ((i : ℕ) → a ≤ i → i < b → get_or part (i - a) 0 ≡ g i (get_or w i 0)) → Changed g a b w (put_mid a (b - a) w part)
changed-part {g} {a} {b} w part ordered inside long each = record {
  same_size = simp (length-append, length-drop) (omega (arith, front));
  within = λ i k l. get_or-append_right (take a w) _ a i 0 front k ∙ get_or_append_left part _ 0 (i - a) (omega arith) ∙ each i k l;
  before = λ i k. get_or_append_left (take a w) _ 0 i (omega (arith, front)) ∙ get_or-take a w i 0 k;
  past = λ i k.
      get_or-append_right (take a w) _ a i 0 front (omega arith)
      ∙ get_or-append_right part _ (b - a) (i - a) 0 long (omega arith)
      ∙ get_or-drop (b - a) (drop a w) (i - a - (b - a)) 0
      ∙ get_or-drop a w (b - a + (i - a - (b - a))) 0
      ∙ ap (λ (n : ℕ). get_or w n 0) (omega arith);
}
  where
    front : length (take a w) ≡ a
    front = length-take-le a w (omega arith)

-- each of them changed alike; the part's bounds may be written otherwise
pub changed_alike : (h : ℕ → ℕ) {a b c d : ℕ} (w part : List ℕ) → a ≡ c → b ≡ d → a ≤ b → b ≤ length w
    → part ≡ map h (take (b - a) (drop a w)) → Changed (λ i. h) c d w (put_mid a (b - a) w part)
changed_alike h {a} {b} w part same_a same_b ordered inside is =
    rw (← same_a, ← same_b)
    (changed-part w part ordered inside (ap length is ∙ length-map mid h ∙ long) λ i k l.
    ap (λ (s : List ℕ). get_or s (i - a) 0) is
    ∙ get_or-map h mid (i - a) 0 0 (omega (arith, long))
    ∙ ap h (get_or-take (b - a) (drop a w) (i - a) 0 (omega arith) ∙ get_or-drop a w (i - a) 0 ∙ ap (λ (n : ℕ). get_or w n 0) (omega arith)))
  where
    mid : List ℕ
    mid = take (b - a) (drop a w)

    long : length mid ≡ b - a
    long = length-take-le (b - a) (drop a w) (simp length-drop (omega arith))
