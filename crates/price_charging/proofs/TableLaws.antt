-- When the tests of three tables accept and when they refuse, and what one table after the other comes to. Assumes nothing.
use mathlib.Core.Path.{◌≡◌, refl, sym, ap, subst, ◌∙◌}
use mathlib.Core.List.{List, [], ◌∷◌, ◌++◌}
use mathlib.Core.Logic.{◌↔◌}
use Rattle.refusals.specs.Tests.{Test, first_of}
use Rattle.refusals.specs.Deciding.{Decides}
use Rattle.refusals.specs.declared.Refusal.{Refusal}
use Rattle.refusals.specs.declared.Refusal.TheVariants.{InvalidTable}
use Rattle.refusals.proofs.FirstOf.{apart, first-passed, first-stopped}
use Rattle.price_bands.specs.Bands.{Verdict, verdict_of}
use Rattle.price_bands.proofs.BandTheorems.{sound-iff, fault-iff}
use Rattle.price_charging.specs.Charging.{Tables, verdict_test, table_tests, ValidTables, TableRefuses, volume_table, area_table, edge_table, checked_after, checked_after_three}
use Rattle.refusals.specs.Refusals.{Checked}
use Rattle.std.specs.Prelude.{Ok, Err}

-- ---- when they accept and refuse
module _ (t : Tables) where
  accepted : (first_of (table_tests t) ≡ Ok tt) ↔ ValidTables t
  unfolding first_of
  accepted = (
    to (verdict_of t.volume) (verdict_of t.area) (verdict_of t.edges) refl refl refl,
    λ h. rw ((sound-iff t.volume).1 h.volume_valid, (sound-iff t.area).1 h.area_valid, (sound-iff t.edges).1 h.edges_valid),
  )
    where
      to : (v a e : Verdict) → verdict_of t.volume ≡ v → verdict_of t.area ≡ a → verdict_of t.edges ≡ e
          → first_of (verdict_test v ∷ verdict_test a ∷ verdict_test e ∷ []) ≡ Ok tt → ValidTables t
      to (Err f) a e hv ha he k = apart k
      to (Ok _) (Err f) e hv ha he k = apart k
      to (Ok _) (Ok _) (Err f) hv ha he k = apart k
      to (Ok _) (Ok _) (Ok _) hv ha he k = record { volume_valid = (sound-iff t.volume).0 hv; area_valid = (sound-iff t.area).0 ha; edges_valid = (sound-iff t.edges).0 he }

  refused : (r : Refusal) → (first_of (table_tests t) ≡ Err r) ↔ TableRefuses t r
  unfolding first_of
  refused r = (to (verdict_of t.volume) (verdict_of t.area) (verdict_of t.edges) refl refl refl, from)
    where
      to : (v a e : Verdict) → verdict_of t.volume ≡ v → verdict_of t.area ≡ a → verdict_of t.edges ≡ e
          → first_of (verdict_test v ∷ verdict_test a ∷ verdict_test e ∷ []) ≡ Err r → TableRefuses t r
      to (Err f) a e hv ha he k = let g : InvalidTable f.band ≡ r = cc in subst (TableRefuses t) g (volume_table ((fault-iff t.volume f.band).0 hv))
      to (Ok _) (Err f) e hv ha he k = let g : InvalidTable f.band ≡ r = cc in subst (TableRefuses t) g (area_table ((sound-iff t.volume).0 hv) ((fault-iff t.area f.band).0 ha))
      to (Ok _) (Ok _) (Err f) hv ha he k =
          let g : InvalidTable f.band ≡ r = cc in
          subst (TableRefuses t) g (edge_table ((sound-iff t.volume).0 hv) ((sound-iff t.area).0 ha) ((fault-iff t.edges f.band).0 he))
      to (Ok _) (Ok _) (Ok _) hv ha he k = apart (sym k)

      from : {r : Refusal} → TableRefuses t r → first_of (table_tests t) ≡ Err r
      from (volume_table {band} f) = rw ((fault-iff t.volume band).1 f)
      from (area_table {band} v f) = rw ((sound-iff t.volume).1 v, (fault-iff t.area band).1 f)
      from (edge_table {band} v a f) = rw ((sound-iff t.volume).1 v, (sound-iff t.area).1 a, (fault-iff t.edges band).1 f)

pub tables-decide : (t : Tables) → Decides (table_tests t) (ValidTables t) (TableRefuses t)
tables-decide t = record { accepted = accepted t; refused = refused t }

-- ---- one table after the other
pub after-accepted : (c : Checked) (v : Verdict) → checked_after c v ≡ Ok tt → (c ≡ Ok tt) × (v ≡ Ok tt)
after-accepted (Err r) v e = apart e
after-accepted (Ok _) (Ok _) e = (refl, refl)
after-accepted (Ok _) (Err fault) e = apart e

pub after_first : (v a e : Verdict) → checked_after_three (Ok tt) v a e ≡ first_of (verdict_test v ∷ verdict_test a ∷ verdict_test e ∷ [])
unfolding first_of
after_first (Err fault) a e = refl
after_first (Ok _) (Err fault) e = refl
after_first (Ok _) (Ok _) (Err fault) = refl
after_first (Ok _) (Ok _) (Ok _) = refl

-- behind whatever tests came before
pub tables_after : (ts : List Test) (t : Tables) → checked_after_three (first_of ts) (verdict_of t.volume) (verdict_of t.area) (verdict_of t.edges) ≡ first_of (ts ++ table_tests t)
tables_after ts t = go (first_of ts) refl
  where
    go : (c : Checked) → first_of ts ≡ c → checked_after_three (first_of ts) (verdict_of t.volume) (verdict_of t.area) (verdict_of t.edges) ≡ first_of (ts ++ table_tests t)
    go (Err r) k = ap (λ c. checked_after_three c (verdict_of t.volume) (verdict_of t.area) (verdict_of t.edges)) k ∙ sym (first-stopped (table_tests t) ts k)
    go (Ok _) k =
        ap (λ c. checked_after_three c (verdict_of t.volume) (verdict_of t.area) (verdict_of t.edges)) k
        ∙ (after_first (verdict_of t.volume) (verdict_of t.area) (verdict_of t.edges)
        ∙ sym (first-passed (table_tests t) ts k))
