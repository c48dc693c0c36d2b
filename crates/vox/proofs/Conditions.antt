-- Each refusal of a VOX file is given if its condition holds and that of no test before it does, and never otherwise; a file is accepted
-- exactly if no condition holds. The statements are of the call, by what it promises. Assumes nothing.
use mathlib.Core.Path.{◌≡◌, refl, sym, ap, subst, ◌∙◌}
use mathlib.Core.Bool.{Bool, true, not, ◌||◌}
use mathlib.Core.List.{List, [], ◌∷◌, ◌++◌}
use mathlib.Core.Logic.{◌↔◌, ◌⊎◌}
use Prim.Native.Nat.{ℕ, ◌+◌, ◌≤◌, ◌<◌}
use native.Mathlib.Omega.{arith}
use lib.Dec.{ltb, leb, eqb}
use lib.ListN.{length, take, drop}
use Rattle.refusals.specs.declared.Refusal.{Refusal}
use Rattle.refusals.specs.declared.Refusal.TheVariants.{TooManyShots, NoPlace, NotVox, BrokenChunk, VoxelRange}
use Rattle.refusals.specs.Refusals.{Checked}
use Rattle.std.specs.Prelude.{Ok, Err}
use Rattle.job.specs.Job.{shot_count}
use Rattle.refusals.specs.Tests.{Test, first_of}
use Rattle.refusals.specs.Deciding.{Each, Says, First, Decides}
use Rattle.ground.proofs.Tests.{ltb-says, leb-says, eqb-says, not-says, or-says, and-says}
use Rattle.job.proofs.Tests.{outside-says}
use Rattle.refusals.proofs.FirstOf.{none_each}
use Rattle.refusals.proofs.Deciding.{decides-by, decides-as}
use Rattle.shotfile_reader.specs.Calls.{read_answer}
use Rattle.shotfile_reader.specs.Calls.{ReadAnswer}
use Rattle.text_same.proofs.SameLaws.{same-iff}
use Rattle.text_parts.specs.Text.{text}
use Rattle.vox_chunks.specs.Chunks.{number_at, stands, content_at, children_at, after_chunk, missing, overruns, mismatched}
use Rattle.vox_voxels.specs.Voxels.{side_on, wrong_side, largest_side, voxel_at}
use Rattle.vox.specs.Vox.{unmarked, unfilled, voxel_count, overrun_from, opening_tests, voxel_tests, vox_tests, vox_in, VoxCall}
use Rattle.vox.specs.Conditions.{Named, NoChunk, Required, main, size, xyzi, no_mark, no_chunk, Misfits, Sized, size_content, xyzi_content, main_broken, misfit, later_broken, WrongSide, side_wrong, voxel_wrong, VoxCondition, not_vox, broken_chunk, voxel_range, too_many_shots, no_place}
use Rattle.vox.proofs.Passed.{voxels-count, given}
use Rattle.vox.proofs.Faults.{first_fault, fault-is, fault-one, after_voxels, later-past, later-inside, walk-past, stops-broken, later-stops}

-- ---- the tests in words of numbers
module _ (s : List ℕ) where
  stands-says : (at : ℕ) (name : List ℕ) → (stands s at name ≡ true) ↔ Named s at name
  unfolding stands
  stands-says at name = same-iff (take 4 (drop at s)) name

  missing-says : (at : ℕ) (name : List ℕ) → (missing s at name ≡ true) ↔ NoChunk s at name
  missing-says at name =
      or-says (leb (length s) at) _ (leb-says (length s) at)
      (and-says (leb (at + 4) (length s)) (not (stands s at name)) (leb-says (at + 4) (length s)) (not-says (stands s at name) (stands-says at name)))

  unlike-says : (a b : ℕ) → (not (eqb a b) ≡ true) ↔ (¬ (a ≡ b))
  unlike-says a b = not-says (eqb a b) (eqb-says a b)

  mismatched-says : (at content : ℕ) → (mismatched s at content ≡ true) ↔ Misfits s at content
  mismatched-says at content =
      or-says (overruns s at) _ (ltb-says (length s) (after_chunk s at))
      (or-says (not (eqb (children_at s at) 0)) (not (eqb (content_at s at) content)) (unlike-says (children_at s at) 0) (unlike-says (content_at s at) content))

  side-says : (axis : ℕ) → (wrong_side s axis ≡ true) ↔ WrongSide s axis
  side-says axis = outside-says 1 256 (side_on s axis)

-- ---- the chunks that must be there
required-past : {at : ℕ} {name : List ℕ} → Required at name → 8 ≤ at
required-past main = omega arith
required-past size = omega arith
required-past xyzi = omega arith

required-one : {at : ℕ} {a b : List ℕ} → Required at a → Required at b → a ≡ b
required-one main main = refl
required-one size size = refl
required-one xyzi xyzi = refl

sized_range : {s : List ℕ} {at content : ℕ} → Sized s at content → (20 ≤ at) × (at ≤ 44)
sized_range size_content = (omega arith, omega arith)
sized_range xyzi_content = (omega arith, omega arith)

sized-one : {s : List ℕ} {at a b : ℕ} → Sized s at a → Sized s at b → a ≡ b
sized-one size_content size_content = refl
sized-one xyzi_content xyzi_content = refl

-- ---- some test of a list gives this refusal
pub data Among (q : Refusal) : List Test → Type 0 where
  here : {t : Test} {ts : List Test} → t.gives ≡ q → Among q (t ∷ ts)
  there : {t : Test} {ts : List Test} → Among q ts → Among q (t ∷ ts)

among-behind : {q : Refusal} (ts : List Test) {us : List Test} → Among q us → Among q (ts ++ us)
among-behind [] a = a
among-behind (t ∷ ts) a = there (among-behind ts a)

none-among : (condition : Refusal → Type 0) {q : Refusal} (ts : List Test) → Each (λ t. ¬ condition t.gives) ts → Among q ts → ¬ condition q
none-among condition {q = q} [] n a c = elim a [ ]
none-among condition (t ∷ ts) n (here e) c = n.0 (subst condition (sym e) c)
none-among condition (t ∷ ts) n (there a) c = none-among condition ts n.1 a c

-- ---- each test says the condition of its refusal
module _ (places : ℕ) (s : List ℕ) where
  abbrev SaysIt : Test → Type 0
  SaysIt t = Says (VoxCondition places s) t

  says : (h : Bool) {P : Type 0} (r : Refusal) → (h ≡ true) ↔ P → (P → VoxCondition places s r) → (VoxCondition places s r → P) → SaysIt (record { holds = h; gives = r })
  says h r i to from = (λ e. to (i.0 e), λ c. i.1 (from c))

  says-mark : SaysIt (record { holds = unmarked s; gives = NotVox 0 })
  says-mark = says (unmarked s) (NotVox 0) is (λ p. not_vox (no_mark refl p)) from
    where
      is : (unmarked s ≡ true) ↔ ((length s < 8) ⊎ (¬ Named s 0 (text "VOX ") ⊎ ¬ (number_at s 4 ≡ 150)))
      is =
          or-says (ltb (length s) 8) _ (ltb-says (length s) 8)
          (or-says (not (stands s 0 (text "VOX "))) (not (eqb (number_at s 4) 150)) (not-says (stands s 0 (text "VOX ")) (stands-says s 0 (text "VOX "))) (unlike-says s (number_at s 4) 150))

      from : VoxCondition places s (NotVox 0) → (length s < 8) ⊎ (¬ Named s 0 (text "VOX ") ⊎ ¬ (number_at s 4 ≡ 150))
      from (not_vox (no_mark e p)) = p
      from (not_vox (no_chunk r p)) = absurd (omega (arith, required-past r))

  says-missing : {at : ℕ} {name : List ℕ} → Required at name → SaysIt (record { holds = missing s at name; gives = NotVox at })
  says-missing {at} {name} r = says (missing s at name) (NotVox at) (missing-says s at name) (λ p. not_vox (no_chunk r p)) from
    where
      from : VoxCondition places s (NotVox at) → NoChunk s at name
      from (not_vox (no_mark e p)) = absurd (omega (arith, e, required-past r))
      from (not_vox (no_chunk q p)) = subst (NoChunk s at) (required-one q r) p

  says-unfilled : SaysIt (record { holds = unfilled s; gives = BrokenChunk 8 })
  says-unfilled = says (unfilled s) (BrokenChunk 8) is (λ p. broken_chunk (main_broken refl p)) from
    where
      is : (unfilled s ≡ true) ↔ (¬ (content_at s 8 ≡ 0) ⊎ ¬ (after_chunk s 8 ≡ length s))
      is = or-says (not (eqb (content_at s 8) 0)) (not (eqb (after_chunk s 8) (length s))) (unlike-says s (content_at s 8) 0) (unlike-says s (after_chunk s 8) (length s))

      from : VoxCondition places s (BrokenChunk 8) → ¬ (content_at s 8 ≡ 0) ⊎ ¬ (after_chunk s 8 ≡ length s)
      from (broken_chunk (main_broken e p)) = p
      from (broken_chunk (misfit z p)) = absurd (omega (arith, (sized_range z).0))
      from (broken_chunk (later_broken l p)) = absurd (omega (arith, later-past s l))

  says-misfit : {at content : ℕ} → Sized s at content → SaysIt (record { holds = mismatched s at content; gives = BrokenChunk at })
  says-misfit {at} {content} z = says (mismatched s at content) (BrokenChunk at) (mismatched-says s at content) (λ p. broken_chunk (misfit z p)) from
    where
      from : VoxCondition places s (BrokenChunk at) → Misfits s at content
      from (broken_chunk (main_broken e p)) = absurd (omega (arith, e, (sized_range z).0))
      from (broken_chunk (misfit y p)) = subst (Misfits s at) (sized-one y z) p
      from (broken_chunk (later_broken l p)) = absurd (omega (arith, later-past s l, (sized_range z).1))

  says-sides : SaysIt (record { holds = wrong_side s 0 || (wrong_side s 1 || wrong_side s 2); gives = VoxelRange 20 })
  says-sides = says (wrong_side s 0 || (wrong_side s 1 || wrong_side s 2)) (VoxelRange 20) is (λ p. voxel_range (side_wrong refl p)) from
    where
      is : (wrong_side s 0 || (wrong_side s 1 || wrong_side s 2) ≡ true) ↔ (WrongSide s 0 ⊎ (WrongSide s 1 ⊎ WrongSide s 2))
      is = or-says (wrong_side s 0) _ (side-says s 0) (or-says (wrong_side s 1) (wrong_side s 2) (side-says s 1) (side-says s 2))

      from : VoxCondition places s (VoxelRange 20) → WrongSide s 0 ⊎ (WrongSide s 1 ⊎ WrongSide s 2)
      from (voxel_range (side_wrong e p)) = p
      from (voxel_range (voxel_wrong e f)) = absurd (omega (arith, e))

  says-many : SaysIt (record { holds = ltb 4096 (voxel_count s); gives = TooManyShots 44 })
  says-many = says (ltb 4096 (voxel_count s)) (TooManyShots 44) (ltb-says 4096 (voxel_count s)) too_many_shots from
    where
      from : VoxCondition places s (TooManyShots 44) → 4096 < voxel_count s
      from (too_many_shots h) = h

  says-crowded : SaysIt (record { holds = ltb places (voxel_count s); gives = NoPlace 44 })
  says-crowded = says (ltb places (voxel_count s)) (NoPlace 44) (ltb-says places (voxel_count s)) no_place from
    where
      from : VoxCondition places s (NoPlace 44) → places < voxel_count s
      from (no_place h) = h

  says-wrong : SaysIt (record { holds = ltb (first_fault s) (voxel_count s); gives = VoxelRange (voxel_at (first_fault s)) })
  says-wrong = says (ltb (first_fault s) (voxel_count s)) (VoxelRange (voxel_at (first_fault s))) (ltb-says (first_fault s) (voxel_count s)) (λ h. voxel_range (voxel_wrong refl (fault-is s h))) from
    where
      from : VoxCondition places s (VoxelRange (voxel_at (first_fault s))) → first_fault s < voxel_count s
      from (voxel_range (side_wrong e p)) = absurd (omega (arith, e))
      from (voxel_range (voxel_wrong e f)) = omega (arith, e, f.is_voxel)

  says-overrun : SaysIt (record { holds = ltb (overrun_from s (after_voxels s)) (length s); gives = BrokenChunk (overrun_from s (after_voxels s)) })
  says-overrun = says (ltb (overrun_from s (after_voxels s)) (length s)) (BrokenChunk (overrun_from s (after_voxels s))) (ltb-says (overrun_from s (after_voxels s)) (length s)) (λ h. broken_chunk (stops-broken s h)) from
    where
      past : 60 ≤ overrun_from s (after_voxels s)
      past = omega (arith, walk-past s (length s) (after_voxels s))

      from : VoxCondition places s (BrokenChunk (overrun_from s (after_voxels s))) → overrun_from s (after_voxels s) < length s
      from (broken_chunk (main_broken e p)) = absurd (omega (arith, e, past))
      from (broken_chunk (misfit z p)) = absurd (omega (arith, past, (sized_range z).1))
      from (broken_chunk (later_broken l p)) = later-inside s l

  tests-say : Each (Says (VoxCondition places s)) (vox_tests places s)
  unfolding opening_tests voxel_tests
  tests-say = (
    says-mark,
    (
      says-missing main,
      (
        says-unfilled,
        (
          says-missing size,
          (
            says-misfit size_content,
            (
              says-sides,
              (says-missing xyzi, (says-misfit xyzi_content, (says-many, (says-crowded, (says-wrong, (says-overrun, tt)))))),
            ),
          ),
        ),
      ),
    ),
  )

  -- what holds is the condition of a test
  pub listed : (q : Refusal) → VoxCondition places s q → Among q (vox_tests places s)
  unfolding opening_tests voxel_tests
  listed q (not_vox (no_mark e p)) = here (ap NotVox (sym e))
  listed q (not_vox (no_chunk main p)) = there (here refl)
  listed q (broken_chunk (main_broken e p)) = there (there (here (ap BrokenChunk (sym e))))
  listed q (not_vox (no_chunk size p)) = there (there (there (here refl)))
  listed q (broken_chunk (misfit size_content p)) = there (there (there (there (here refl))))
  listed q (voxel_range (side_wrong e p)) = there (there (there (there (there (here (ap VoxelRange (sym e)))))))
  listed q (not_vox (no_chunk xyzi p)) = among-behind (opening_tests s) (here refl)
  listed q (broken_chunk (misfit xyzi_content p)) = among-behind (opening_tests s) (there (here refl))
  listed q (too_many_shots h) = among-behind (opening_tests s) (there (there (here refl)))
  listed q (no_place h) = among-behind (opening_tests s) (there (there (there (here refl))))
  listed q (voxel_range (voxel_wrong e f)) = among-behind (opening_tests s) (there (there (there (there (here (ap (λ n. VoxelRange (voxel_at n)) (sym (fault-one s f)) ∙ ap VoxelRange (sym e)))))))
  listed q (broken_chunk (later_broken l p)) = among-behind (opening_tests s) (there (there (there (there (there (here (ap BrokenChunk (sym (later-stops s l p)))))))))

  -- the tests accept exactly if no condition holds, and refuse by the first that does
  pub vox-decides : Decides (vox_tests places s) ((q : Refusal) → ¬ VoxCondition places s q) (First (VoxCondition places s) (vox_tests places s))
  vox-decides =
      decides-as (decides-by (VoxCondition places s) (vox_tests places s) tests-say)
      (λ n q c. none-among (VoxCondition places s) (vox_tests places s) n (listed q c) c, λ n. none_each (VoxCondition places s) n (vox_tests places s))
      (λ r. (λ f. f, λ f. f))

  -- ---- what the file says
  abbrev said : Checked → ReadAnswer
  said c = read_answer (given s c)

  says-read : (c : Checked) → (c ≡ Ok tt) ↔ (said c ≡ Ok (record { field = largest_side s; edge = 1; grid = 1; shots = voxel_count s }))
  says-read (Ok tt) = (λ e. rw (voxels-count s 0 (voxel_count s)), λ e. refl)
  says-read (Err r) = (λ e. let z : ◌≡◌ {A = ℕ} 0 1 = cc in absurd (omega arith), λ e. let z : ◌≡◌ {A = ℕ} 0 1 = cc in absurd (omega arith))

  says-refused : (c : Checked) (q : Refusal) → (c ≡ Err q) ↔ (said c ≡ Err q)
  says-refused (Ok tt) q = (λ e. let z : ◌≡◌ {A = ℕ} 0 1 = cc in absurd (omega arith), λ e. let z : ◌≡◌ {A = ℕ} 0 1 = cc in absurd (omega arith))
  says-refused (Err r) q = (λ e. let z : r ≡ q = cc in ap Err z, λ e. let z : r ≡ q = cc in ap Err z)

-- ---- the call
module _ {s before after : List ℕ} {r : ReadAnswer} (call : VoxCall s before r after) where
  told : r ≡ said (shot_count before) s (first_of (vox_tests (shot_count before) s))
  unfolding vox_in
  told = call.answer

  -- a file is read exactly if no condition holds: with the largest side as field, edge 1, grid 1 and a shot for each voxel
  pub vox-accepts : (r ≡ Ok (record { field = largest_side s; edge = 1; grid = 1; shots = voxel_count s })) ↔ ((q : Refusal) → ¬ VoxCondition (shot_count before) s q)
  vox-accepts =
      let i = says-read (shot_count before) s (first_of (vox_tests (shot_count before) s)) in
      let h = (vox-decides (shot_count before) s).accepted in
      (λ e. h.0 (i.1 (sym told ∙ e)), λ n. told ∙ i.0 (h.1 n))

  -- each refusal is given exactly if its condition holds and that of no test before it does
  pub vox-refuses : (q : Refusal) → (r ≡ Err q) ↔ First (VoxCondition (shot_count before) s) (vox_tests (shot_count before) s) q
  vox-refuses q =
      let i = says-refused (shot_count before) s (first_of (vox_tests (shot_count before) s)) q in
      let h = (vox-decides (shot_count before) s).refused q in
      (λ e. h.0 (i.1 (sym told ∙ e)), λ f. told ∙ i.0 (h.1 f))
