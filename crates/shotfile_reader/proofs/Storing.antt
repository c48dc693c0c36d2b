-- The coordinates of the next n shots, one shot a turn. Assumes nothing.
use mathlib.Core.Path.{◌≡◌}
use mathlib.Core.List.{List, [], ◌++◌}
use Prim.Native.Nat.{ℕ, suc, ◌+◌, ◌-◌, ◌≤◌, ◌<◌}
use native.Mathlib.Omega.{arith}
use Rattle.buffer.proofs.Underway.{Underway, underway-none}
use Rattle.refusals.specs.declared.Refusal.{Refusal}
use Rattle.job.specs.Job.{place_of}
use Rattle.shotfile_reader.specs.declared.Cursor.{Cursor}
use Rattle.shotfile_reader.specs.Files.{Step}
use Rattle.std.specs.Prelude.{Some, None, Ok, Err}
use Rattle.shotfile_records.specs.Numbers.{shot_numbers}
use Rattle.shotfile_reader.specs.Files.{step_at, on_shot, next_shots}

pub next-all : (s : List ℕ) (c : Cursor) (n : ℕ) (w : List ℕ) → Underway (next_shots n s c) w w 0 (place_of 0) (next_shots (n - 0) s c)
next-all s c n w =
    let e : n - 0 ≡ n = omega arith in
    rw e (underway-none (next_shots n s c) w 0 (omega arith))

module _ (s : List ℕ) (c : Cursor) (n i : ℕ) where
  pub next-done : n ≤ i → next_shots (n - i) s c ≡ []
  unfolding next_shots
  next-done h =
      let e : n - i ≡ 0 = omega arith in
      rw e

  module _ (h : i < n) where
    -- by what the step gave
    on : (t : Step) → t ≡ step_at s c → next_shots (n - i) s c ≡ on_shot t [] (λ c'. shot_numbers c'.last ++ next_shots (n - (i + 1)) s c')
    unfolding next_shots
    on t e =
        let m : n - i ≡ suc (n - (i + 1)) = omega arith in
        rw (m, e)

    pub next-stopped : {r : Refusal} → Err r ≡ step_at s c → next_shots (n - i) s c ≡ []
    next-stopped {r} e = on (Err r) e

    pub next-ended : (Ok None) ≡ step_at s c → next_shots (n - i) s c ≡ []
    next-ended e = on (Ok None) e

    pub next_shot : {next : Cursor} → Ok (Some next) ≡ step_at s c → next_shots (n - i) s c ≡ shot_numbers next.last ++ next_shots (n - (i + 1)) s next
    next_shot {next} e = on (Ok (Some next)) e
