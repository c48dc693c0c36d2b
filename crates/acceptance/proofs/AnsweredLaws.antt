-- What `ok` keeps of an answer. Assumes nothing.
use mathlib.Core.Path.{◌≡◌, refl}
use Rattle.std.specs.Prelude.{Some, None, Result, Ok, Err, ℕ}
use Rattle.std.specs.Result.{result_ok}
use native.Mathlib.Omega.{arith}

pub ok-some : {A E : Type 0} (m : Result A E) {t : A} → result_ok m ≡ Some t → m ≡ Ok t
ok-some (Ok a) e = cc
ok-some (Err q) e = let z : ◌≡◌ {A = ℕ} 0 1 = cc in absurd (omega arith)

pub ok-none : {A E : Type 0} (m : Result A E) → result_ok m ≡ None → (q : E) × (m ≡ Err q)
ok-none (Ok a) e = let z : ◌≡◌ {A = ℕ} 0 1 = cc in absurd (omega arith)
ok-none (Err q) e = (q, refl)
