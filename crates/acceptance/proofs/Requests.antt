-- Requests (i), (iv) and (v), from what the calls promise. Assumes nothing.
use mathlib.Core.Path.{◌≡◌, ap, subst}
use mathlib.Core.List.{List}
use Prim.Native.Nat.{ℕ}
use lib.IntN.{nat_abs}
use Rattle.lattice.specs.Figures.{EdgeLength, InnerLength}
use Rattle.job.specs.Job.{Job, job_of}
use Rattle.measure_intake.specs.Intake.{MeasureCall, Measured}
use Rattle.measure.specs.Answers.{ListCall}
use Rattle.measure.proofs.Condition3.{measure-agrees, lengths-together}
use Rattle.crediting.specs.Credits.{CreditCall}
use Rattle.crediting.proofs.CreditTheorems.{credit-at, credits-kept, credits-sum, repeat-none, kept-totals, kept-listing, reordered-sum}
use Rattle.shotfile_reader.specs.Calls.{ReadAnswer}
use Rattle.vox.specs.Vox.{VoxCall}
use Rattle.vox.proofs.Voxels.{vox-stored}
use Rattle.acceptance.specs.Voxels.{VoxelsRead}
use Rattle.acceptance.specs.Credits.{Credited, SumsAlike, LeftOut}
use Rattle.acceptance.specs.Lengths.{BothLengths}
use Rattle.acceptance.proofs.Condition3.{quoted}
use Rattle.refusals.specs.Refusals.{Checked}
use Rattle.std.specs.Prelude.{Ok}

-- ---- (i)
pub voxels-read : {bytes coords coords' : List ℕ} {r : ReadAnswer} → VoxCall bytes coords r coords' → VoxelsRead bytes r coords'
voxels-read {bytes} {coords} {coords'} call list e = vox-stored (subst (λ (a : ReadAnswer). VoxCall bytes coords a coords') e call)

-- ---- (iv), the credits
module _ {job : Job} {work credits work' credits' : List ℕ} {c : Checked} (call : CreditCall job work credits c work' credits') where
  taken : c ≡ Ok tt → CreditCall job work credits (Ok tt) work' credits'
  taken e = subst (λ (k : Checked). CreditCall job work credits k work' credits') e call

  pub credited : Credited job credits c credits'
  credited e = record { credit = credit-at (taken e); sum = credits-sum (taken e); repeat = repeat-none (taken e); others = credits-kept (taken e) }

pub sums-alike : {job job₂ : Job} {work credits work' credits' work₂ credits₂ work₂' credits₂' : List ℕ} {c c₂ : Checked}
    → CreditCall job work credits c work' credits' → CreditCall job₂ work₂ credits₂ c₂ work₂' credits₂' → job.field ≡ job₂.field
    → SumsAlike job job₂ (record { one = c; two = c₂ }) credits' credits₂'
sums-alike one two f e e₂ h h₂ = reordered-sum (taken one e) (taken two e₂) f h h₂

pub left_out : {F E G : ℕ} {coords others work credits work' credits' work₁ buffer work₁' buffer' work₂ buffer₂ work₂' buffer₂' : List ℕ} {c : Checked} {m m₂ : Measured}
    → CreditCall (job_of F E G coords) work credits c work' credits'
    → ListCall (job_of F E G coords) work₁ buffer m work₁' buffer' → ListCall (job_of F E G others) work₂ buffer₂ m₂ work₂' buffer₂'
    → LeftOut (job_of F E G coords) (job_of F E G others) (record { credited = c; one = m; two = m₂ }) credits' buffer' buffer₂'
left_out call one two e keeps t t₂ q q₂ = record {
  totals = kept-totals (taken call e) keeps (quoted one q) (quoted two q₂);
  bytes = kept-listing (taken call e) keeps (quoted one q) (quoted two q₂);
}

-- ---- (v)
pub both-lengths : {job : Job} {work work' : List ℕ} {r : Measured} → MeasureCall job work r work' → BothLengths job r
both-lengths {job} {work} {work'} call t e =
    let a = measure-agrees (subst (λ (m : Measured). MeasureCall job work m work') e call) in
    record {
      edge = ap nat_abs (a.counts EdgeLength);
      inner = ap nat_abs (a.counts InnerLength);
      edge_sum = a.sums EdgeLength;
      inner_sum = a.sums InnerLength;
      together = lengths-together a;
    }
