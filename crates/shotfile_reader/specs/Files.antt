-- A shot file as it is read: the header's record, then a record a shot, up to the end of the bytes. docs/SCOPE.md, 'Shot file' and 'When a
-- job is refused'.
use Rattle.std.specs.Prelude.{cond, List, [], ◌++◌, ℕ, zero, suc, ltb, length, Option, Some, None, Result, Ok, Err}
use Rattle.refusals.specs.declared.Refusal.{Refusal}
use Rattle.refusals.specs.declared.Refusal.TheVariants.{TooManyShots, NoPlace}
use Rattle.job.specs.Job.{Job, job_of}
use Rattle.shotfile_records.specs.declared.Fields.{Fields}
use Rattle.shotfile_records.specs.declared.Record.{Record}
use Rattle.shotfile_records.specs.Numbers.{shot_numbers}
use Rattle.shotfile_records.specs.Records.{header_absent, first_absent, record_at}
use Rattle.shotfile_reader.specs.declared.Cursor.{Cursor}

-- what is taken at a place of a file: a whole record, or its refusal
abbrev pub Taken : Type 0
Taken = Result Record Refusal

-- a step takes one record: a shot, with the cursor after it, or a refusal; or there is no record left
abbrev pub Step : Type 0
Step = Result (Option Cursor) Refusal

abbrev pub step_of : Taken → Step
step_of (Ok taken) = Ok (Some (record { at = taken.end; last = taken.fields }))
step_of (Err r) = Err r

unfoldable pub step_at : List ℕ → Cursor → Step
step_at s c = cond (ltb c.at (length s)) (step_of (record_at s c.at c.last)) (Ok None)

-- what the rest of a file says: coordinates, or the refusal of its first faulty record
pub data Rest : Type 0 where
  coordinates : List ℕ → Rest
  faulty : Refusal → Rest

-- a shot and then the rest
abbrev pub with_shot : Fields → Rest → Rest
with_shot f (coordinates coords) = coordinates (shot_numbers f ++ coords)
with_shot f (faulty r) = faulty r

abbrev pub on_step : Step → (Cursor → Rest) → Rest
on_step (Ok (Some c)) next = with_shot c.last (next c)
on_step (Err r) next = faulty r
on_step (Ok None) next = coordinates []

-- the shots from a cursor on, where `left` more are allowed and the coordinate slice has places for `places` more:
-- refusals 2, 3, 4, 5, 17 in this order on each record, and the first faulty record decides
unfoldable pub shots_from : ℕ → ℕ → List ℕ → Cursor → Rest
shots_from zero places s c = cond (ltb c.at (length s)) (faulty (TooManyShots c.at)) (coordinates [])
shots_from (suc left) zero s c = cond (ltb c.at (length s)) (faulty (NoPlace c.at)) (coordinates [])
shots_from (suc left) (suc places) s c = on_step (step_at s c) (shots_from left places s)

-- a file: the settings of its header with the coordinates of its shots, or its refusal
pub data File : Type 0 where
  file : Job → File
  refused : Refusal → File

abbrev pub with_settings : Fields → Rest → File
with_settings f (coordinates coords) = file (job_of f.first f.second f.third coords)
with_settings f (faulty r) = refused r

-- the cursor at the first shot
abbrev pub first_shot : ℕ → Cursor
first_shot at = record { at = at; last = first_absent }

abbrev pub on_header : Taken → (ℕ → Rest) → File
on_header (Ok taken) rest = with_settings taken.fields (rest taken.end)
on_header (Err r) rest = refused r

-- what a file says where the coordinate slice has places for so many shots; at most 4,096 shots
unfoldable pub file_in : ℕ → List ℕ → File
file_in places s = on_header (record_at s 0 header_absent) (λ end. shots_from 4096 places s (first_shot end))

-- the coordinates of the next n shots
abbrev pub on_shot : {A : Type 0} → Step → A → (Cursor → A) → A
on_shot (Ok (Some c)) none next = next c
on_shot (Err r) none next = none
on_shot (Ok None) none next = none

unfoldable pub next_shots : ℕ → List ℕ → Cursor → List ℕ
next_shots zero s c = []
next_shots (suc n) s c = on_shot (step_at s c) [] (λ c'. shot_numbers c'.last ++ next_shots n s c')
