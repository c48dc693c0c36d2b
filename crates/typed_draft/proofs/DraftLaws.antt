-- The ways of one line more. Assumes nothing.
use mathlib.Core.Path.{◌≡◌}
use Prim.Native.Nat.{ℕ, ◌+◌, ◌<◌}
use borrow.Author.Tests.{lt-ltb}
use Rattle.std.specs.Prelude.{Result, Some, None, Ok, Err}
use Rattle.typed_line.specs.declared.entry.Setting.{Setting}
use Rattle.typed_line.specs.declared.entry.Setting.TheVariants.{Field, Edge, Grid}
use Rattle.typed_line.specs.declared.entry.Mistake.{Mistake}
use Rattle.typed_line.specs.declared.entry.Entry.{Entry}
use Rattle.typed_line.specs.declared.entry.Entry.TheVariants.{Setting as Settled, Shot}
use Rattle.typed_draft.specs.declared.Draft.{Draft}
use Rattle.typed_draft.specs.Drafts.{settled, shot_more, then}

-- ---- a setting more
module _ (d : Draft) (n : ℕ) {which : Setting} where
  pub field-once : which ≡ Field → d.field ≡ None → Ok (record d { field = Some n }) ≡ settled d which n
  unfolding settled
  field-once w g = rw (w, g)

  pub edge-once : which ≡ Edge → d.edge ≡ None → Ok (record d { edge = Some n }) ≡ settled d which n
  unfolding settled
  edge-once w g = rw (w, g)

  pub grid-once : which ≡ Grid → d.grid ≡ None → Ok (record d { grid = Some n }) ≡ settled d which n
  unfolding settled
  grid-once w g = rw (w, g)

module _ (places : ℕ) (d : Draft) where
  -- ---- a shot more
  pub shots-room : d.shots < 4096 → d.shots < places → Ok (record d { shots = d.shots + 1 }) ≡ shot_more places d
  unfolding shot_more
  shots-room h k = rw (lt-ltb d.shots 4096 h, lt-ltb d.shots places k)

  -- ---- a line more
  pub then-setting : {e : Result Entry Mistake} {s : Setting} {n : ℕ} → e ≡ Ok (Settled s n) → settled d s n ≡ then places d e
  unfolding then
  then-setting q = rw q

  pub then-shot : {e : Result Entry Mistake} {x y z : ℕ} → e ≡ Ok (Shot x y z) → shot_more places d ≡ then places d e
  unfolding then
  then-shot q = rw q

  pub then-wrong : {e : Result Entry Mistake} {m : Mistake} → e ≡ Err m → Err m ≡ then places d e
  unfolding then
  then-wrong q = rw q
