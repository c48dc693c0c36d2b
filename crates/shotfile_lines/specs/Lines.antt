-- The lines of a shot file's text: a setting, a shot, a refusal. docs/SCOPE.md, 'Shot file' and 'When a job is refused'. What follows `#`
-- in a line is a comment; a refusal is none, so that no program takes the text of a refused file for a list.
use Rattle.std.specs.Prelude.{cond, List, [], ◌++◌, ℕ, ◌/◌, ◌%◌, eqb}
use Rattle.refusals.specs.Refusals.{number_of, detail_of, notice_of}
use Rattle.refusals.specs.declared.Place.{Place}
use Rattle.refusals.specs.declared.Place.TheVariants.{Byte, Shot, Nowhere}
use Rattle.refusals.specs.declared.Refusal.{Refusal}
use Rattle.shotfile_records.specs.declared.Fields.{Fields}
use Rattle.text_parts.specs.Text.{text}
use Rattle.text_parts.specs.Decimal.{decimal}
use Rattle.text_wording.specs.Sentences.{sentence}

-- a label and a decimal value
abbrev pub labelled : List ℕ → ℕ → List ℕ
labelled label a = label ++ decimal a

-- a comment where a setting's bit in the header's map is clear
unfoldable pub note : ℕ → List ℕ
note bit = cond (eqb bit 0) (text " # default") []

-- a setting, by its name, its value and its bit
unfoldable pub setting_line : List ℕ → ℕ → ℕ → List ℕ
setting_line name value bit = labelled name value ++ (note bit ++ text "\n")

-- the settings of a header with the map m
unfoldable pub settings : ℕ → Fields → List ℕ
settings m f =
    setting_line (text "field ") f.first (m % 2)
    ++ (setting_line (text "edge ") f.second (m / 2 % 2)
    ++ setting_line (text "grid ") f.third (m / 4))

-- shot n, from 0, whose map is at a place of the file
unfoldable pub shot_line : Fields → ℕ → ℕ → List ℕ
shot_line f n at =
    labelled (text "shot ") f.first
    ++ (labelled (text " ") f.second
    ++ (labelled (text " ") f.third
    ++ (labelled (text " # number ") n
    ++ (labelled (text ", byte ") at
    ++ text "\n"))))

-- where a refusal with this detail is met: the byte of a map, a shot, or nothing
abbrev pub place_text : Place → ℕ → List ℕ
place_text Byte detail = labelled (text " at byte ") detail
place_text Shot detail = labelled (text " at shot ") detail
place_text Nowhere detail = []

-- a refusal: its number, where it is met, and its sentence
unfoldable pub refused_line : Refusal → List ℕ
refused_line r =
    labelled (text "refused ") (number_of r)
    ++ (place_text (notice_of r).met (detail_of r)
    ++ (text ": "
    ++ (sentence r
    ++ text "\n")))
