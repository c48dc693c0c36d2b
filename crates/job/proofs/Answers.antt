-- What the checks of a list answer, one way out after the other. Assumes nothing.
use mathlib.Core.Path.{◌≡◌, sym, ◌∙◌}
use mathlib.Core.Bool.{true, false}
use mathlib.Core.List.{List}
use Prim.Native.Nat.{ℕ, ◌%◌, ◌≤◌, ◌<◌}
use lib.Dec.{ltb}
use lib.ListN.{length}
use borrow.Author.Tests.{lt-ltb, le-ltb, eq-eqb, ne_eqb}
use Rattle.lattice.specs.Shots.{any}
use Rattle.refusals.specs.declared.Refusal.{Refusal}
use Rattle.refusals.specs.declared.Refusal.TheVariants.{BrokenShot, TooManyShots, FieldRange, EdgeRange, GridRange, OutsideField}
use Rattle.job.specs.Job.{Job, shots, shots_of, shot_count}
use Rattle.job.specs.Checking.{outside, leaves, first_leaving, setting_tests, shot_tests, tests}
use Rattle.refusals.specs.Tests.{first_of, Checks}
use Rattle.job.proofs.Shots.{shots-count, any-leaves}
use Rattle.refusals.proofs.FirstOf.{checks, first-passed, first-stopped}
use Rattle.refusals.specs.Refusals.{Checked}
use Rattle.std.specs.Prelude.{Ok, Err}

-- ---- the settings
module _ (job : Job) where
  open job use {field as F, edge as E, grid as G, coords}

  pub broken : (length coords % 3 ≡ 0 → ⊥) → Checks (setting_tests job) (Err BrokenShot)
  unfolding setting_tests first_of
  broken h = checks (setting_tests job) (simp (ne_eqb (length coords % 3) 0 h))

  module _ (threes : length coords % 3 ≡ 0) where
    pub too_many : 4096 < shot_count coords → Checks (setting_tests job) (Err (TooManyShots 0))
    unfolding setting_tests first_of
    too_many h = checks (setting_tests job) (simp (eq-eqb (length coords % 3) 0 threes, lt-ltb 4096 (shot_count coords) h))

    module _ (few : shot_count coords ≤ 4096) where
      pub bad-field : outside 1 1024 F ≡ true → Checks (setting_tests job) (Err FieldRange)
      unfolding setting_tests first_of
      bad-field h = checks (setting_tests job) (simp (eq-eqb (length coords % 3) 0 threes, le-ltb 4096 (shot_count coords) few, h))

      module _ (good-field : outside 1 1024 F ≡ false) where
        pub bad-edge : outside 1 F E ≡ true → Checks (setting_tests job) (Err EdgeRange)
        unfolding setting_tests first_of
        bad-edge h = checks (setting_tests job) (simp (eq-eqb (length coords % 3) 0 threes, le-ltb 4096 (shot_count coords) few, good-field, h))

        module _ (good-edge : outside 1 F E ≡ false) where
          pub bad-grid : outside 1 64 G ≡ true → Checks (setting_tests job) (Err GridRange)
          unfolding setting_tests first_of
          bad-grid h = checks (setting_tests job) (simp (eq-eqb (length coords % 3) 0 threes, le-ltb 4096 (shot_count coords) few, good-field, good-edge, h))

          module _ (good-grid : outside 1 64 G ≡ false) where
            pub no-divisor : (F % G ≡ 0 → ⊥) → Checks (setting_tests job) (Err GridRange)
            unfolding setting_tests first_of
            no-divisor h = checks (setting_tests job) (simp (eq-eqb (length coords % 3) 0 threes, le-ltb 4096 (shot_count coords) few, good-field, good-edge, good-grid, ne_eqb (F % G) 0 h))

            pub good-settings : F % G ≡ 0 → Checks (setting_tests job) (Ok tt)
            unfolding setting_tests first_of
            good-settings h = checks (setting_tests job) (simp (eq-eqb (length coords % 3) 0 threes, le-ltb 4096 (shot_count coords) few, good-field, good-edge, good-grid, eq-eqb (F % G) 0 h))

-- ---- the shots
module _ (F E : ℕ) (coords : List ℕ) where
  leaving : any (leaves F) (shots_of E coords) ≡ ltb (first_leaving F (shots_of E coords)) (shot_count coords)
  leaving = rw (← shots-count E coords) (any-leaves F (shots_of E coords))

  module _ {shot : ℕ} (e : shot ≡ first_leaving F (shots_of E coords)) where
    pub leaves_field : shot < shot_count coords → Checks (shot_tests F (shots_of E coords)) (Err (OutsideField shot))
    unfolding shot_tests first_of
    leaves_field h = checks (shot_tests F (shots_of E coords)) (simp (leaving, ← e, lt-ltb _ (shot_count coords) h))

    pub none-leaves : shot_count coords ≤ shot → Checks (shot_tests F (shots_of E coords)) (Ok tt)
    unfolding shot_tests first_of
    none-leaves h = checks (shot_tests F (shots_of E coords)) (simp (leaving, ← e, le-ltb _ (shot_count coords) h))

-- ---- both
module _ (job : Job) where
  pub settings-refused : {r : Refusal} → Err r ≡ first_of (setting_tests job) → Checks (tests job) (Err r)
  unfolding tests
  settings-refused e = checks (tests job) (sym (first-stopped (shot_tests job.field (shots job)) (setting_tests job) (sym e)))

  pub settings-passed : {r : Checked} → Ok tt ≡ first_of (setting_tests job) → r ≡ first_of (shot_tests job.field (shots job)) → Checks (tests job) r
  unfolding tests
  settings-passed e k = checks (tests job) (k ∙ sym (first-passed (shot_tests job.field (shots job)) (setting_tests job) (sym e)))
