-- The words before that of the loop are changed.
use Rattle.std.proofs.Common.{◌≡◌, ℕ, ◌++◌, map, take, drop}
use Rattle.sweep_image.proofs.change_rows.Given as goal

abbrev pub invariant-loop-w : goal.invariant-loop-w
invariant-loop-w g l =
    (h : ℕ → ℕ) → ((w v : ℕ) → goal.F-post g l.change w v → v ≡ h w) → l.rows ≡ map h (take l.w-index l.initial.rows) ++ drop l.w-index l.initial.rows
