-- Each refusal of `read` is given if its condition holds and no earlier one does, and never otherwise; a file is read exactly where no
-- record of it is faulty. Stated of the definitions, and of the call by its contract. Assumes nothing.
use mathlib.Core.Path.{◌≡◌, sym, ap, ◌∙◌}
use mathlib.Core.List.{List}
use mathlib.Core.Logic.{◌↔◌}
use Prim.Native.Nat.{ℕ}
use native.Mathlib.Omega.{arith}
use Rattle.refusals.specs.declared.Refusal.{Refusal}
use Rattle.job.specs.Job.{Job, job_of, shot_count, first_shots}
use Rattle.job.specs.declared.Stored.{Stored}
use Rattle.shotfile_reader.specs.Calls.{ReadAnswer}
use Rattle.std.specs.Prelude.{Ok, Err}
use Rattle.shotfile_reader.specs.Files.{file, refused, file_in}
use Rattle.shotfile_reader.specs.Calls.{read_answer, ReadCall}
use Rattle.shotfile_reader.specs.Conditions.{FirstFault, Faultless}
use Rattle.shotfile_reader.proofs.Faults.{Outcome, accepted, turned_down, outcome, first-fault-one}
use Rattle.shotfile_reader.proofs.Accepted.{accepted-file, refused-file}

apart : {P : Type 0} {job : Job} {r : Refusal} → file job ≡ refused r → P
apart e = let z : ◌≡◌ {A = ℕ} 0 1 = cc in absurd (omega arith)

module _ (places : ℕ) (s : List ℕ) where
  -- a file is refused if and only if its first faulty record is: by this refusal, whose condition is the first that holds there
  file-refuses : (r : Refusal) → (file_in places s ≡ refused r) ↔ FirstFault places s r
  file-refuses r = (to (outcome places s), from (outcome places s))
    where
      to : Outcome places s (file_in places s) → file_in places s ≡ refused r → FirstFault places s r
      to (accepted e h) k = apart (sym e ∙ k)
      to (turned_down {r = q} e h) k =
          let same : refused q ≡ refused r = sym e ∙ k in
          let one : q ≡ r = cc in
          rw (← one) h

      from : Outcome places s (file_in places s) → FirstFault places s r → file_in places s ≡ refused r
      from (accepted e h) k = absurd (h k.n k.at k.absent k.is_record r k.holds)
      from (turned_down e h) k = e ∙ ap refused (first-fault-one h k)

  -- a file is read if and only if no record of it is faulty
  file-reads : ((job : Job) × (file_in places s ≡ file job)) ↔ Faultless places s
  file-reads = (to (outcome places s), from (outcome places s))
    where
      to : Outcome places s (file_in places s) → (job : Job) × (file_in places s ≡ file job) → Faultless places s
      to (accepted e h) k = h
      to (turned_down e h) k = apart (sym k.1 ∙ e)

      from : Outcome places s (file_in places s) → Faultless places s → (job : Job) × (file_in places s ≡ file job)
      from (accepted {job = job} e h) k = (job, e)
      from (turned_down {r = r} e h) k = absurd (k h.n h.at h.absent h.is_record r h.holds)

module _ {s before after : List ℕ} {r : ReadAnswer} (c : ReadCall s before r after) where
  -- a refusal is given if and only if its condition is the first that holds at the first faulty record
  pub read-refuses : (q : Refusal) → (r ≡ Err q) ↔ FirstFault (shot_count before) s q
  read-refuses q = (λ e. (file-refuses (shot_count before) s q).0 (refused-file c e).0, λ h. c.answer ∙ ap read_answer ((file-refuses (shot_count before) s q).1 h))

  -- a file is read if and only if no record of it is faulty
  pub read-accepts : ((list : Stored) × (r ≡ Ok list)) ↔ Faultless (shot_count before) s
  read-accepts = (to, from)
    where
      to : (list : Stored) × (r ≡ Ok list) → Faultless (shot_count before) s
      to (list, e) = (file-reads (shot_count before) s).0 (job_of list.field list.edge list.grid (first_shots list.shots after), (accepted-file c e).is)

      from : Faultless (shot_count before) s → (list : Stored) × (r ≡ Ok list)
      from h =
          let (job, e) = (file-reads (shot_count before) s).1 h in
          (record { field = job.field; edge = job.edge; grid = job.grid; shots = shot_count job.coords }, c.answer ∙ ap read_answer e)
