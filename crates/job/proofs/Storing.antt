-- The numbers of a shot, stored one after the other. Assumes nothing.
use mathlib.Core.Path.{◌≡◌, ◌∙◌}
use mathlib.Core.List.{List, [], ◌∷◌, append_assoc}
use Prim.Native.Nat.{ℕ, suc, ◌+◌, ◌*◌, ◌<◌}
use native.Mathlib.Omega.{arith}
use lib.ListN.{take, drop, set}
use lib.Seq.{sets-eq}
use Rattle.buffer.specs.Wrote.{Wrote}
use Rattle.job.specs.Job.{shot_count, place_of, numbers_of}

pub shot-stored : (l : List ℕ) (i x y z : ℕ) → i < shot_count l
    → Wrote l (set (set (set l (3 * i) x) (3 * i + 1) y) (3 * i + 2) z) (place_of i) (place_of (i + 1)) (numbers_of x y z)
shot-stored l i x y z h =
    let e₁ : 3 * i + 1 ≡ suc (3 * i) = omega arith in
    let e₂ : 3 * i + 2 ≡ suc (suc (3 * i)) = omega arith in
    let e₃ : 3 * (i + 1) ≡ 3 * i + 3 = omega arith in
    record {
      next = omega arith;
      room = omega arith;
      is = rw (e₁, e₂, e₃) (sets-eq (x ∷ y ∷ z ∷ []) l (3 * i) (omega arith) ∙ append_assoc (take (3 * i) l) (x ∷ y ∷ z ∷ []) (drop (3 * i + 3) l));
    }
