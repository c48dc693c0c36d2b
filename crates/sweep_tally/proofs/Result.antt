-- What is found at the end: the sums of all corners met, and, where the buffer has room for them all, their records and then what was there.
use mathlib.Core.Path.{◌≡◌, refl, sym, ◌∙◌, ap, ap₂}
use mathlib.Core.List.{List, [], ◌∷◌, ◌++◌, append-nil, append_assoc}
use Prim.Native.Nat.{ℕ, suc, ◌+◌, ◌*◌, ◌/◌, ◌≤◌}
use native.Mathlib.Nat.{add-zero, zero-add}
use native.Mathlib.Omega.{arith}
use lib.ListN.{length, take, drop, length-append, length-drop}
use lib.Seq.{take_at, drop-append-add, drop-drop}
use borrow.Author.Tests.{lt-ltb}
use Rattle.lattice.specs.Listing.{Corner, corner_record, bytes}
use Rattle.lattice_sums.specs.CornerSums.{sums_of, added}
use Rattle.lattice_sums.specs.declared.sums.CornerSums.{CornerSums}
use Rattle.lattice_sums.proofs.CornerSumLaws.{sums-more}
use Rattle.sweep_tally.specs.Found.{stored_record, state, meet, found}

-- ---- the sums
found-more : (ms vs : List Corner) (b : List ℕ) → (found (state (sums_of ms) b) vs).sums ≡ sums_of (ms ++ vs)
unfolding found meet
found-more ms [] b = ap sums_of (sym (append-nil ms))
found-more ms (v ∷ vs) b =
    let b' : List ℕ = stored_record b (sums_of ms).corners (corner_record v) in
    ap (λ (t : CornerSums). (found (state t b') vs).sums) (sums-more ms v)
    ∙ found-more (ms ++ (v ∷ [])) vs b' ∙ ap sums_of (append_assoc ms (v ∷ []) vs)

pub found-sums : (vs : List Corner) (b : List ℕ) → (found (state (sums_of []) b) vs).sums ≡ sums_of vs
found-sums vs b = found-more [] vs b

-- ---- the records
-- k elements r after the n that are done
block : (d w r : List ℕ) (n k : ℕ) → length d ≡ n → take n (d ++ drop n w) ++ (r ++ drop (n + k) (d ++ drop n w)) ≡ (d ++ r) ++ drop (n + k) w
block d w r n k e =
    let t : take n (d ++ drop n w) ≡ d = take_at d (drop n w) n e in
    let u : drop (n + k) (d ++ drop n w) ≡ drop (n + k) w = rw (← e) (drop-append-add d (drop (length d) w) k ∙ drop-drop k (length d) w) in
    rw (t, u) (sym (append_assoc d r (drop (n + k) w)))

stored_next : (d b r : List ℕ) (k : ℕ) → length d ≡ 7 * k → length r ≡ 7 → 7 * (k + 1) ≤ length b → stored_record (d ++ drop (7 * k) b) k r ≡ (d ++ r) ++ drop (7 * (k + 1)) b
unfolding stored_record
stored_next d b r k h l m =
    let n : length (d ++ drop (7 * k) b) ≡ length b = omega (arith, length-append d (drop (7 * k) b), length-drop (7 * k) b) in
    let q : 7 * (k + 1) ≡ 7 * k + 7 = omega arith in
    rw (n, lt-ltb k (length b / 7) (omega arith), q) (block d b r (7 * k) 7 h)

bytes-more : (vs : List Corner) (t : CornerSums) (d b : List ℕ) → length d ≡ 7 * t.corners → 7 * (t.corners + length vs) ≤ length b
    → (found (state t (d ++ drop (7 * t.corners) b)) vs).bytes ≡ (d ++ bytes vs) ++ drop (7 * (t.corners + length vs)) b
unfolding found meet added bytes corner_record
bytes-more [] t d b h m = rw (append-nil, add-zero)
bytes-more (v ∷ vs) t d b h m =
    let r : List ℕ = corner_record v in
    let n : 7 * (t.corners + 1 + length vs) ≡ 7 * (t.corners + suc (length vs)) = omega arith in
    ap (λ c. (found (state (added t v) c) vs).bytes) (stored_next d b r t.corners h refl (omega arith))
    ∙ bytes-more vs (added t v) (d ++ r) b (omega (arith, length-append d r)) (omega arith)
    ∙ ap₂ ◌++◌ (append_assoc d r (bytes vs)) (ap (λ k. drop k b) n)

pub found-bytes : (vs : List Corner) (b : List ℕ) → 7 * length vs ≤ length b → (found (state (sums_of []) b) vs).bytes ≡ bytes vs ++ drop (7 * length vs) b
unfolding sums_of
found-bytes vs b h = bytes-more vs (sums_of []) [] b refl (omega arith) ∙ ap (λ n. bytes vs ++ drop (7 * n) b) (zero-add (length vs))
