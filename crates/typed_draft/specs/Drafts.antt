-- What the lines above say, and one line more.
use Rattle.std.specs.Prelude.{cond, ℕ, ◌+◌, ltb, Option, Some, None, unwrap_or, Result, Ok, Err}
use Rattle.shotfile_records.specs.declared.Fields.{Fields}
use Rattle.shotfile_records.specs.Records.{header_absent}
use Rattle.typed_line.specs.declared.entry.Setting.{Setting}
use Rattle.typed_line.specs.declared.entry.Setting.TheVariants.{Field, Edge, Grid}
use Rattle.typed_line.specs.declared.entry.Mistake.{Mistake}
use Rattle.typed_line.specs.declared.entry.Mistake.TheVariants.{SettingTwice, TooManyShots, NoPlace}
use Rattle.typed_line.specs.declared.entry.Entry.{Entry}
use Rattle.typed_line.specs.declared.entry.Entry.TheVariants.{Nothing, Setting as Settled, Shot}
use Rattle.typed_draft.specs.declared.Draft.{Draft}

-- before the first line no setting is given, and there are no shots
unfoldable pub nothing_yet : Draft
nothing_yet = record { field = None; edge = None; grid = None; shots = 0 }

-- a setting that no line has given is what a shot file's header means where it leaves out its field
unfoldable pub settings_of : Draft → Fields
settings_of d = record { first = unwrap_or d.field header_absent.first; second = unwrap_or d.edge header_absent.second; third = unwrap_or d.grid header_absent.third }

-- a setting stands at most once
abbrev pub once : Option ℕ → ℕ → Result (Option ℕ) Mistake
once (Some above) n = Err SettingTwice
once None n = Ok (Some n)

-- what a setting makes of the lines above, or the mistake that it is
abbrev pub on_once : Result (Option ℕ) Mistake → (Option ℕ → Draft) → Result Draft Mistake
on_once (Ok given) make = Ok (make given)
on_once (Err m) make = Err m

unfoldable pub settled : Draft → Setting → ℕ → Result Draft Mistake
settled d Field n = on_once (once d.field n) (λ given. record d { field = given })
settled d Edge n = on_once (once d.edge n) (λ given. record d { edge = given })
settled d Grid n = on_once (once d.grid n) (λ given. record d { grid = given })

-- at most 4,096 shots, and no more than have a place
unfoldable pub shot_more : ℕ → Draft → Result Draft Mistake
shot_more places d =
    cond (ltb d.shots 4096)
    (cond (ltb d.shots places)
    (Ok (record d { shots = d.shots + 1 }))
    (Err NoPlace))
    (Err TooManyShots)

-- the lines above and one more
unfoldable pub then : ℕ → Draft → Result Entry Mistake → Result Draft Mistake
then places d (Ok Nothing) = Ok d
then places d (Ok (Settled s n)) = settled d s n
then places d (Ok (Shot x y z)) = shot_more places d
then places d (Err m) = Err m
