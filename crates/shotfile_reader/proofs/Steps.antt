-- One step of the cursor, and the shots from a cursor on. Assumes nothing.
use mathlib.Core.Path.{◌≡◌, refl, sym, ap, ◌∙◌}
use mathlib.Core.List.{List, []}
use Prim.Native.Nat.{ℕ, zero, suc, ◌+◌, ◌-◌, ◌≤◌, ◌<◌}
use native.Mathlib.Omega.{arith}
use lib.ListN.{length}
use borrow.Author.Tests.{le-ltb, lt-ltb}
use Rattle.refusals.specs.declared.Refusal.{Refusal}
use Rattle.refusals.specs.declared.Refusal.TheVariants.{TooManyShots, NoPlace}
use Rattle.shotfile_records.specs.declared.Fields.{Fields}
use Rattle.shotfile_reader.specs.Files.{Taken}
use Rattle.shotfile_reader.specs.declared.Cursor.{Cursor}
use Rattle.shotfile_reader.specs.Files.{Step}
use Rattle.std.specs.Prelude.{Some, None, Ok, Err}
use Rattle.shotfile_reader.specs.Calls.{Counted}
use Rattle.shotfile_records.specs.Records.{record_at}
use Rattle.shotfile_reader.specs.Files.{step_of, step_at, Rest, coordinates, faulty, with_shot, on_step, shots_from}
use Rattle.shotfile_reader.specs.Calls.{count_of}
use Rattle.shotfile_reader.proofs.Coords.{count-more}

module _ (s : List ℕ) (c : Cursor) where
  pub step_end : length s ≤ c.at → (Ok None) ≡ step_at s c
  unfolding step_at
  step_end h = simp (le-ltb c.at (length s) h)

  pub step-on : c.at < length s → (t : Taken) → t ≡ record_at s c.at c.last → step_of t ≡ step_at s c
  unfolding step_at
  step-on h t e = simp (lt-ltb c.at (length s) h, e)

  -- the shots from here on, by what stands here
  pub shots-on : (left places : ℕ) → shots_from (suc left) (suc places) s c ≡ on_step (step_at s c) (shots_from left places s)
  unfolding shots_from
  shots-on left places = refl

  pub shots-end : (left places : ℕ) → length s ≤ c.at → shots_from left places s c ≡ coordinates []
  unfolding shots_from
  shots-end zero places h = simp (le-ltb c.at (length s) h)
  shots-end (suc left) zero h = simp (le-ltb c.at (length s) h)
  shots-end (suc left) (suc places) h = ap (λ (t : Step). on_step t (shots_from left places s)) (sym (step_end h))

  module _ (h : c.at < length s) where
    shots-many : (places : ℕ) → shots_from 0 places s c ≡ faulty (TooManyShots c.at)
    unfolding shots_from
    shots-many places = simp (lt-ltb c.at (length s) h)

    shots-full : (left : ℕ) → shots_from (suc left) 0 s c ≡ faulty (NoPlace c.at)
    unfolding shots_from
    shots-full left = simp (lt-ltb c.at (length s) h)

-- ---- counting
-- n shots more
abbrev pub more : ℕ → Counted → Counted
more n (Ok k) = Ok (n + k)
more n (Err r) = Err r

more-none : (k : Counted) → more 0 k ≡ k
more-none (Ok k) = ap Ok (omega arith)
more-none (Err r) = refl

more-shot : (n : ℕ) (f : Fields) (r : Rest) → more n (count_of (with_shot f r)) ≡ more (n + 1) (count_of r)
more-shot n f (coordinates coords) = ap Ok (omega (arith, count-more f coords))
more-shot n f (faulty r) = refl

-- the count of all shots, after n of them
abbrev pub Counting : List ℕ → ℕ → Counted → Cursor → ℕ → Type 0
Counting s places all c n = more n (count_of (shots_from (4096 - n) (places - n) s c)) ≡ all

module _ (s : List ℕ) (places : ℕ) {all : Counted} (c : Cursor) (n : ℕ) (h : Counting s places all c n) where
  pub count-end : length s ≤ c.at → Ok n ≡ all
  count-end e = ap Ok (omega arith) ∙ (sym (ap (λ (r : Rest). more n (count_of r)) (shots-end s c (4096 - n) (places - n) e)) ∙ h)

  module _ (l : c.at < length s) where
    pub count-many : n ≡ 4096 → Err (TooManyShots c.at) ≡ all
    count-many e =
        let z : 4096 - n ≡ 0 = omega arith in
        let r : shots_from (4096 - n) (places - n) s c ≡ faulty (TooManyShots c.at) = rw z (shots-many s c l (places - n)) in
        sym (ap (λ (r : Rest). more n (count_of r)) r) ∙ h

    module _ (b : n < 4096) where
      next-left : 4096 - n ≡ suc (4096 - (n + 1))
      next-left = omega arith

      pub count-full : places ≤ n → Err (NoPlace c.at) ≡ all
      count-full p =
          let z : places - n ≡ 0 = omega arith in
          let r : shots_from (4096 - n) (places - n) s c ≡ faulty (NoPlace c.at) = rw (next-left, z) (shots-full s c l (4096 - (n + 1))) in
          sym (ap (λ (r : Rest). more n (count_of r)) r) ∙ h

      module _ (p : n < places) where
        -- by what the step gave
        on : (t : Step) → t ≡ step_at s c → more n (count_of (on_step t (shots_from (4096 - (n + 1)) (places - (n + 1)) s))) ≡ all
        on t e =
            let q : places - n ≡ suc (places - (n + 1)) = omega arith in
            let r : shots_from (4096 - n) (places - n) s c ≡ on_step (step_at s c) (shots_from (4096 - (n + 1)) (places - (n + 1)) s) = rw (next-left, q) (shots-on s c (4096 - (n + 1)) (places - (n + 1))) in
            ap (λ (t : Step). more n (count_of (on_step t (shots_from (4096 - (n + 1)) (places - (n + 1)) s)))) e ∙ (sym (ap (λ (r : Rest). more n (count_of r)) r) ∙ h)

        pub count-shot : {next : Cursor} → Ok (Some next) ≡ step_at s c → Counting s places all next (n + 1)
        count-shot {next} e = sym (more-shot n next.last (shots_from (4096 - (n + 1)) (places - (n + 1)) s next)) ∙ on (Ok (Some next)) e

        pub count-stopped : {r : Refusal} → Err r ≡ step_at s c → Err r ≡ all
        count-stopped {r} e = on (Err r) e

        pub count-ended : (Ok None) ≡ step_at s c → Ok n ≡ all
        count-ended e = ap Ok (omega arith) ∙ on (Ok None) e

pub count-start : (s : List ℕ) (places : ℕ) (c : Cursor) → Counting s places (count_of (shots_from 4096 places s c)) c 0
count-start s places c =
    let e : places - 0 ≡ places = omega arith in
    rw e (more-none (count_of (shots_from 4096 places s c)))
