-- The parts of one x after another, put into a lent slice.
use mathlib.Core.Path.{◌≡◌, refl, sym, ◌∙◌, ap, subst}
use mathlib.Core.List.{List, ◌++◌}
use Prim.Native.Nat.{ℕ, ◌+◌, ◌≤◌, ◌<◌}
use native.Mathlib.Numerals.{add-one}
use native.Mathlib.Omega.{arith}
use lib.ListN.{length}
use Rattle.buffer.specs.Wrote.{Wrote}
use Rattle.buffer.proofs.WroteLaws.{wrote_none, wrote_as, wrote-length, wrote_then}
use Rattle.ground.specs.Sums.{join}
use Rattle.ground.proofs.JoinLaws.{join-next, join-length-next, join-length-up}
use Rattle.section.specs.Section.{part_with}
use Rattle.section.proofs.ListedRuns.{listing-parts}
use Rattle.acceptance.specs.Sections.{PutPart, PartsPut}

module _ {before after : List ℕ} {at r : ℕ} {part : List ℕ} where
  pub put-none : before ≡ after → at ≡ r → at ≤ length before → length before < at + length part → PutPart before after at r part
  put-none b e h k = record { inside = omega (arith, ap length b); same_room = ap length (sym b); written = λ l. absurd (omega arith) }

  pub put_whole : Wrote before after at r part → PutPart before after at r part
  put_whole w = record { inside = omega (arith, w.room, wrote-length w); same_room = wrote-length w; written = λ l. w }

-- the parts of the first n numbers stand at the front, if there is room for all of them
pub record Joined (l before now : List ℕ) (side next n : ℕ) : Type 0 where
  pub inside : next ≤ length now
  pub same_room : length now ≡ length before
  pub written : length (join (side + 1) (part_with l)) ≤ length before → Wrote before now 0 next (join n (part_with l))

module _ (l before : List ℕ) (side : ℕ) where
  pub joined-none : Joined l before before side 0 0
  unfolding join
  joined-none = record { inside = omega arith; same_room = refl; written = λ h. wrote_none before 0 (omega arith) }

  pub joined-more : {now then part : List ℕ} {next after n : ℕ} → n ≤ side → Joined l before now side next n → part ≡ part_with l n → PutPart now then next after part → Joined l before then side after (n + 1)
  joined-more {n = n} k j e p = record {
    inside = p.inside;
    same_room = p.same_room ∙ j.same_room;
    written = λ h.
        let w = j.written h in
        wrote_as (ap (λ q. join n (part_with l) ++ q) e ∙ sym (join-next (part_with l) n))
        (wrote_then w (p.written (omega (arith, w.next, j.same_room, h, ap length e, join-length-next (part_with l) n, join-length-up (part_with l) (n + 1) (side + 1) (omega arith)))));
  }

  joined-all : {now : List ℕ} {next : ℕ} → Joined l before now side next (side + 1) → PartsPut l side before now next
  joined-all j s e h =
      let all : join (side + 1) (part_with l) ≡ l = rw (add-one side, e) (listing-parts side s) in
      wrote_as all (j.written (omega (arith, ap length all)))

  -- the last part
  pub joined-last : {now then part : List ℕ} {next after n : ℕ} → n ≡ side → Joined l before now side next n → part ≡ part_with l side → PutPart now then next after part → PartsPut l side before then after
  joined-last {now} {next = next} e j k p = joined-all (joined-more (omega arith) (subst (λ (n : ℕ). Joined l before now side next n) e j) k p)
