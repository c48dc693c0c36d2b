-- One corner more: in the buffer, in the sums, and in what is found.
use mathlib.Core.Path.{◌≡◌, refl}
use mathlib.Core.List.{List, [], ◌∷◌, ◌++◌}
use Prim.Native.Nat.{ℕ, ◌+◌, ◌*◌, ◌/◌, ◌≤◌, ◌<◌}
use lib.ListN.{length}
use borrow.Author.Tests.{lt-ltb, le-ltb}
use Rattle.lattice.specs.Listing.{Corner, corner_record}
use Rattle.lattice_sums.specs.CornerSums.{added, Room}
use Rattle.lattice_sums.specs.declared.sums.CornerSums.{CornerSums}
use Rattle.lattice_sums.proofs.CornerSumLaws.{added-room}
use Rattle.sweep_tally.specs.Found.{with_record, stored_record, Found, state, meet, found}

-- ---- the buffer
pub stored-none : (b : List ℕ) (n : ℕ) (r : List ℕ) → length b / 7 ≤ n → b ≡ stored_record b n r
unfolding stored_record
stored-none b n r h = rw (le-ltb n (length b / 7) h)

pub stored_one : (b : List ℕ) (n : ℕ) (r : List ℕ) {b' : List ℕ} → n < length b / 7 → b' ≡ with_record b (7 * n) r → b' ≡ stored_record b n r
unfolding stored_record
stored_one b n r h e = rw (lt-ltb n (length b / 7) h) e

-- ---- one corner
pub met : (t : CornerSums) (b : List ℕ) (v : Corner) {t' : CornerSums} {b' : List ℕ} → t' ≡ added t v → b' ≡ stored_record b t.corners (corner_record v)
    → state t' b' ≡ meet (state t b) v
unfolding meet
met t b v h k = rw (h, k)

-- it takes room for one corner
pub room-meet : (f : Found) (v : Corner) (n : ℕ) → v.x ≤ 1024 → v.y ≤ 1024 → v.z ≤ 1024 → Room f.sums n → Room (meet f v).sums (n + 1)
unfolding meet
room-meet f v n hx hy hz r = added-room f.sums v hx hy hz n r

-- ---- corner after corner
pub found-append : (f : Found) (a b : List Corner) → found f (a ++ b) ≡ found (found f a) b
unfolding found
found-append f [] b = refl
found-append f (v ∷ a) b = found-append (meet f v) a b

pub found-one : (f : Found) (v : Corner) → found f (v ∷ []) ≡ meet f v
unfolding found
found-one f v = refl
