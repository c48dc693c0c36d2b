-- The tests of a VOX file stand in file order, so that of the refusals whose conditions hold the first in the file is given; the last
-- statement is of the call, by what it promises. Assumes nothing.
use mathlib.Core.Path.{◌≡◌, refl, sym, ap, subst}
use mathlib.Core.List.{List, [], ◌∷◌, ◌++◌}
use mathlib.Core.Logic.{◌↔◌, ◌⊎◌, inl, inr}
use Prim.Native.Nat.{ℕ, ◌≤◌, ◌<◌}
use native.Mathlib.Omega.{arith}
use lib.ListN.{length}
use Rattle.refusals.specs.declared.Refusal.{Refusal}
use Rattle.refusals.specs.Refusals.{number_of, detail_of}
use Rattle.refusals.specs.Tests.{Test, first_of}
use Rattle.refusals.specs.Refusals.{Checked}
use Rattle.std.specs.Prelude.{Ok, Err}
use Rattle.refusals.specs.Deciding.{Each, First}
use Rattle.job.specs.Job.{shot_count}
use Rattle.shotfile_reader.specs.Calls.{ReadAnswer}
use Rattle.vox_voxels.proofs.VoxelLaws.{wrong_first}
use Rattle.vox.specs.Vox.{voxel_count, overrun_from, opening_tests, voxel_tests, vox_tests, VoxCall}
use Rattle.vox.specs.Conditions.{VoxCondition}
use Rattle.vox.specs.FileOrder.{chunk_of, on_one_chunk, place_in, Precedes, InFileOrder, FirstInFile}
use Rattle.vox.proofs.Faults.{first_fault, after_voxels, walk-past}
use Rattle.vox.proofs.Conditions.{Among, here, there, listed, vox-decides, vox-refuses}

-- ---- before and before again is before
precedes-then : {a b c : Refusal} → Precedes a b → Precedes b c → Precedes a c
precedes-then p q = record {
  chunks = omega (arith, p.chunks, q.chunks);
  details = omega (arith, p.details, q.details);
  numbers = λ e. omega (arith, p.numbers (omega (arith, e, p.chunks, q.chunks)), q.numbers (omega (arith, e, p.chunks, q.chunks)));
}

-- each test comes before the next
abbrev Linked : List Test → Type 0
Linked [] = Unit {0}
Linked (t ∷ []) = Unit {0}
Linked (t ∷ u ∷ us) = Precedes t.gives u.gives × Linked (u ∷ us)

-- so it comes before all that follow
before-all : {a b : Refusal} → Precedes a b → (ts : List Test) → Each (λ u. Precedes b u.gives) ts → Each (λ u. Precedes a u.gives) ts
before-all p [] e = tt
before-all p (t ∷ ts) e = (precedes-then p e.0, before-all p ts e.1)

linked-all : (ts : List Test) → Linked ts → InFileOrder ts
linked-all [] l = tt
linked-all (t ∷ []) l = (tt, tt)
linked-all (t ∷ u ∷ us) l =
    let rest = linked-all (u ∷ us) l.1 in
    ((l.0, before-all l.0 us rest.0), rest)

-- ---- one test and the next: on a later chunk, or on the same one; then the tests after it
and_then : {P Q : Type 0} → P → Q → P × Q
and_then p q = (p, q)

on-later : {a b : Refusal} → chunk_of a < chunk_of b → detail_of a ≤ detail_of b → Precedes a b
on-later h d = record { chunks = omega (arith, h); details = d; numbers = λ e. absurd (omega (arith, h, e)) }

on_same : {a b : Refusal} → chunk_of a ≡ chunk_of b → detail_of a ≤ detail_of b → place_in on_one_chunk (number_of a) < place_in on_one_chunk (number_of b) → Precedes a b
on_same h d n = record { chunks = omega (arith, h); details = d; numbers = λ e. n }

-- ---- the tests of a file: offsets never fall, and on one chunk the numbers are in the order 13, 14, 2, 3, 15
pub vox-in-order : (places : ℕ) (s : List ℕ) → InFileOrder (vox_tests places s)
unfolding opening_tests voxel_tests
vox-in-order places s =
    let fault : first_fault s ≤ voxel_count s = (wrong_first s 0 (voxel_count s) (voxel_count s) (omega arith)).within in
    let past : after_voxels s ≤ overrun_from s (after_voxels s) = walk-past s (length s) (after_voxels s) in
    linked-all (vox_tests places s)
    (and_then (on-later (omega arith) (omega arith))
    (and_then (on_same (omega arith) (omega arith) (omega arith))
    (and_then (on-later (omega arith) (omega arith))
    (and_then (on_same (omega arith) (omega arith) (omega arith))
    (and_then (on_same (omega arith) (omega arith) (omega arith))
    (and_then (on-later (omega arith) (omega arith))
    (and_then (on_same (omega arith) (omega arith) (omega arith))
    (and_then (on_same (omega arith) (omega arith) (omega arith))
    (and_then (on_same (omega arith) (omega arith) (omega arith))
    (and_then (on_same (omega arith) (omega arith) (omega arith))
    (and_then (on-later (omega (arith, past)) (omega (arith, fault, past)))
    tt)))))))))))

-- ---- the first test that holds gives the refusal that is first in the file
never_both : {a b : Refusal} → Precedes a b → Precedes b a → ⊥
never_both {a} {b} p q =
    let e : chunk_of a ≡ chunk_of b = omega (arith, p.chunks, q.chunks) in
    omega (arith, p.numbers e, q.numbers (sym e))

at_each : {a q : Refusal} (ts : List Test) → Each (λ u. Precedes a u.gives) ts → Among q ts → Precedes a q
at_each {a = a} {q = q} [] e m = elim m [ ]
at_each {a} (t ∷ ts) e (here k) = subst (Precedes a) k e.0
at_each (t ∷ ts) e (there m) = at_each ts e.1 m

module _ (condition : Refusal → Type 0) where
  others-after : (before : List Test) (first : Test) (after : List Test) → InFileOrder (before ++ first ∷ after) → Each (λ t. ¬ condition t.gives) before
      → {q : Refusal} → Among q (before ++ first ∷ after) → condition q → (q ≡ first.gives) ⊎ Precedes first.gives q
  others-after [] first after o n (here e) c = inl (sym e)
  others-after [] first after o n (there m) c = inr (at_each after o.0 m)
  others-after (t ∷ ts) first after o n (here e) c = absurd (n.0 (subst condition (sym e) c))
  others-after (t ∷ ts) first after o n (there m) c = others-after ts first after o.1 n.1 m c

module _ (places : ℕ) (s : List ℕ) where
  first-there : {r : Refusal} → First (VoxCondition places s) (vox_tests places s) r → FirstInFile (VoxCondition places s) r
  first-there {r} f = record {
    holds = f.holds;
    others_later = λ q c. subst (λ g. (q ≡ g) ⊎ Precedes g q) f.gives_it
        (others-after (VoxCondition places s) f.before f.here f.after (subst InFileOrder f.is (vox-in-order places s)) f.none_before (subst (Among q) f.is (listed places s q c)) c);
  }

  only-there : {q : Refusal} → FirstInFile (VoxCondition places s) q → first_of (vox_tests places s) ≡ Err q
  only-there {q} f = go (first_of (vox_tests places s)) refl
    where
      same : {p : Refusal} → FirstInFile (VoxCondition places s) p → (q ≡ p) ⊎ Precedes p q → (p ≡ q) ⊎ Precedes q p → ◌≡◌ {A = Checked} (Err p) (Err q)
      same g (inl e) b = ap Err (sym e)
      same g (inr a) (inl e) = ap Err e
      same g (inr a) (inr b) = absurd (never_both a b)

      go : (c : Checked) → first_of (vox_tests places s) ≡ c → c ≡ Err q
      go (Ok tt) e = absurd ((vox-decides places s).accepted.0 e q f.holds)
      go (Err p) e =
          let g = first-there (((vox-decides places s).refused p).0 e) in
          same g (g.others_later q f.holds) (f.others_later p g.holds)

-- ---- the call: each refusal is given exactly if its condition holds and any other whose condition holds comes after it in the file
pub vox-first : {s before after : List ℕ} {r : ReadAnswer} → VoxCall s before r after → (q : Refusal) → (r ≡ Err q) ↔ FirstInFile (VoxCondition (shot_count before) s) q
vox-first {s} {before} call q =
    let i = vox-refuses call q in
    let places = shot_count before in
    (λ e. first-there places s (i.0 e), λ f. i.1 (((vox-decides places s).refused q).0 (only-there places s f)))
