-- Condition 3, from what the calls promise. Assumes nothing.
use mathlib.Core.Path.{◌≡◌, refl, sym, ◌∙◌, ap, subst}
use mathlib.Core.Bool.{Bool, true}
use mathlib.Core.List.{List}
use lib.Seq.{ext_get_or}
use mathlib.Core.Logic.{◌↔◌, ◌⊎◌, inl, inr}
use Prim.Native.Nat.{ℕ, ◌*◌, ◌≤◌}
use native.Mathlib.Omega.{arith}
use lib.ListN.{length, get_or, take}
use Rattle.lattice.specs.Listing.{SameBytes}
use Rattle.lattice_sums.specs.declared.sums.Totals.{Totals}
use Rattle.refusals.specs.declared.Refusal.{Refusal}
use Rattle.job.specs.Job.{Job}
use Rattle.text_same.specs.Same.{same}
use Rattle.text_same.proofs.SameLaws.{same-iff}
use Rattle.measure_intake.specs.Intake.{solid, MeasureCall, Measured}
use Rattle.measure.specs.Answers.{ListCall, ListAccepts, ListRefuses}
use Rattle.measure.specs.Agreement.{SameCells}
use Rattle.measure.proofs.Condition3.{measure-agrees, list-agrees, list-lists, same_bytes}
use Rattle.measure.proofs.Refused.{listing-fits, list-accepts, list-refuses}
use Rattle.acceptance.specs.Condition3.{TotalsAgree, CornersListed, Compared, CellsCompared}
use Rattle.acceptance.specs.Comparing.{Fits, comparison}
use Rattle.std.specs.Prelude.{Ok, Err}

-- ---- one list
pub totals-agree : {job : Job} {work work' : List ℕ} {r : Measured} → MeasureCall job work r work' → TotalsAgree job r
totals-agree {job} {work} {work'} call t e = measure-agrees (subst (λ (m : Measured). MeasureCall job work m work') e call)

module _ {job : Job} {work buffer work' buffer' : List ℕ} {r : Measured} (call : ListCall job work buffer r work' buffer') where
  pub quoted : {t : Totals} → r ≡ Ok t → ListCall job work buffer (Ok t) work' buffer'
  quoted e = subst (λ (m : Measured). ListCall job work buffer m work' buffer') e call

  pub corners_listed : CornersListed job r buffer'
  corners_listed t e = record { totals = list-agrees (quoted e); listing = list-lists (quoted e) }

  -- the buffer has the listing bytes
  pub listed-fits : length buffer' ≡ length buffer → Fits r buffer'
  listed-fits long = go r refl
    where
      go : (m : Measured) → r ≡ m → Fits m buffer'
      go (Ok t) e = subst (λ (n : ℕ). 7 * t.corners ≤ n) (sym long) (listing-fits job (length work) (length buffer) (sym e ∙ call.answer))
      go (Err q) e = tt

-- ---- two lists
equal-bytes : (a b : List ℕ) → (a ≡ b) ↔ SameBytes a b
equal-bytes a b = (λ e. record { many = ap length e; agree = λ i h. ap (λ l. get_or l i 0) e }, λ s. ext_get_or 0 a b s.many s.agree)

abbrev compared : Bool → Compared
compared b = Ok b

says_same : (b : Bool) → (compared b ≡ Ok true) ↔ (b ≡ true)
says_same b = (λ e. cc, λ e. ap compared e)

never-refused : (b : Bool) (q : Refusal) → compared b ≡ Err q → ⊥
never-refused b q e = let z : ◌≡◌ {A = ℕ} 0 1 = cc in absurd (omega arith)

module _ {one : Job} {work buffer work' buffer' : List ℕ} {m : Measured} (call : ListCall one work buffer m work' buffer')
    {two : Job} {work₂ buffer₂ work₂' buffer₂' : List ℕ} {m₂ : Measured} (call₂ : ListCall two work₂ buffer₂ m₂ work₂' buffer₂')
    {r : Compared} (is : r ≡ comparison m buffer' m₂ buffer₂') where
  compared_same : ListAccepts one (length work) (length buffer) → ListAccepts two (length work₂) (length buffer₂) → (r ≡ Ok true) ↔ SameCells (solid one) (solid two)
  compared_same h h₂ = (λ e. cells.0 ((equal-bytes a b).0 ((same-iff a b).0 ((says_same (same a b)).0 (sym told ∙ e)))), λ s. told ∙ (says_same (same a b)).1 ((same-iff a b).1 ((equal-bytes a b).1 (cells.1 s))))
    where
      q : (t : Totals) × (m ≡ Ok t)
      q = (list-accepts call).1 h

      q₂ : (t : Totals) × (m₂ ≡ Ok t)
      q₂ = (list-accepts call₂).1 h₂

      a : List ℕ
      a = take (7 * q.0.corners) buffer'

      b : List ℕ
      b = take (7 * q₂.0.corners) buffer₂'

      told : r ≡ Ok (same a b)
      told = is ∙ ap (λ (n : Measured). comparison n buffer' m₂ buffer₂') q.1 ∙ ap (λ (n : Measured). comparison (Ok q.0) buffer' n buffer₂') q₂.1

      cells : SameBytes a b ↔ SameCells (solid one) (solid two)
      cells = same_bytes (quoted call q.1) (quoted call₂ q₂.1)

  abbrev RefusedBy : Refusal → Type 0
  RefusedBy q = ListRefuses one (length work) (length buffer) q ⊎ (ListAccepts one (length work) (length buffer) × ListRefuses two (length work₂) (length buffer₂) q)

  compared-refuses : (q : Refusal) → (r ≡ Err q) ↔ RefusedBy q
  compared-refuses q = (λ e. to m m₂ refl refl (sym is ∙ e), from)
    where
      to : (n n₂ : Measured) → m ≡ n → m₂ ≡ n₂ → comparison n buffer' n₂ buffer₂' ≡ Err q → RefusedBy q
      to (Err p) n₂ e e₂ c = let z : p ≡ q = cc in inl ((list-refuses call q).0 (e ∙ ap Err z))
      to (Ok t) (Err p) e e₂ c = let z : p ≡ q = cc in inr ((list-accepts call).0 (t, e), (list-refuses call₂ q).0 (e₂ ∙ ap Err z))
      to (Ok t) (Ok t₂) e e₂ c = absurd (never-refused (same (take (7 * t.corners) buffer') (take (7 * t₂.corners) buffer₂')) q c)

      from : RefusedBy q → r ≡ Err q
      from (inl h) = is ∙ ap (λ (n : Measured). comparison n buffer' m₂ buffer₂') ((list-refuses call q).1 h)
      from (inr h) =
          let a = (list-accepts call).1 h.0 in
          is ∙ ap (λ (n : Measured). comparison n buffer' m₂ buffer₂') a.1 ∙ ap (λ (n : Measured). comparison (Ok a.0) buffer' n buffer₂') ((list-refuses call₂ q).1 h.1)

  pub cells-compared : CellsCompared one (length work) (length buffer) two (length work₂) (length buffer₂) r
  cells-compared = record { same = compared_same; refuses = compared-refuses }
