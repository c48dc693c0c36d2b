-- The lines of a shot file's text, by what stands in them; how long they are.
use mathlib.Core.Path.{◌≡◌, refl, sym, ap}
use mathlib.Core.Bool.{Bool, true, false, not, cond}
use Rattle.std.specs.Int.{from_bool}
use mathlib.Core.List.{List, [], ◌++◌}
use Prim.Native.Nat.{ℕ, ◌+◌, ◌≤◌}
use native.Mathlib.Omega.{arith}
use lib.Dec.{eqb}
use lib.ListN.{length, length-append}
use Rattle.buffer.specs.Wrote.{Wrote}
use Rattle.buffer.proofs.WroteLaws.{wrote_none, wrote_as}
use Rattle.refusals.specs.declared.Place.{Place}
use Rattle.refusals.specs.declared.Place.TheVariants.{Byte, Shot, Nowhere}
use Rattle.refusals.specs.declared.Refusal.{Refusal}
use Rattle.refusals.specs.Refusals.{number_of, detail_of, notice_of}
use Rattle.shotfile_records.specs.declared.Fields.{Fields}
use Rattle.text_parts.specs.Text.{text}
use Rattle.text_parts.specs.Decimal.{decimal}
use Rattle.text_parts.proofs.LineLaws.{digits-length}
use Rattle.text_wording.specs.Sentences.{sentence}
use Rattle.text_wording.proofs.SentenceLaws.{sentence-length}
use Rattle.shotfile_lines.specs.Lines.{labelled, note, shot_line, place_text, refused_line}

pub labelled-length : (label : List ℕ) (a : ℕ) → length (labelled label a) ≤ length label + 20
labelled-length label a = omega (arith, length-append label (decimal a), digits-length 20 a)

-- ---- the note of a setting
pub note-stands : (w : List ℕ) (at : ℕ) → at + 10 ≤ length w → Wrote w w at at (note (from_bool true))
unfolding note
note-stands w at r = wrote_none w at (omega arith)

pub note-absent : text " # default" ≡ note (from_bool false)
unfolding note
note-absent = refl

-- only 0 says that a setting does not stand
pub note-told : (bit : ℕ) → note (from_bool (not (eqb bit 0))) ≡ note bit
unfolding note
note-told bit = go (eqb bit 0)
  where
    go : (b : Bool) → cond (eqb (from_bool (not b)) 0) (text " # default") [] ≡ cond b (text " # default") []
    go true = refl
    go false = refl

-- ---- where a refusal is met
module _ (detail : ℕ) where
  pub at_byte : (place : Place) → place ≡ Byte → labelled (text " at byte ") detail ≡ place_text place detail
  at_byte place e = sym (ap (λ (p : Place). place_text p detail) e)

  pub at-shot : (place : Place) → place ≡ Shot → labelled (text " at shot ") detail ≡ place_text place detail
  at-shot place e = sym (ap (λ (p : Place). place_text p detail) e)

  pub nowhere : (place : Place) (w : List ℕ) (at : ℕ) → place ≡ Nowhere → at + 29 ≤ length w → Wrote w w at at (place_text place detail)
  nowhere place w at e r = wrote_as (sym (ap (λ (p : Place). place_text p detail) e)) (wrote_none w at (omega arith))

  pub place-length : (place : Place) → length (place_text place detail) ≤ 29
  place-length Byte = labelled-length (text " at byte ") detail
  place-length Shot = labelled-length (text " at shot ") detail
  place-length Nowhere = omega arith

-- ---- whole lines
pub refused-length : (r : Refusal) → length (refused_line r) ≤ 128
unfolding refused_line
refused-length r =
    omega (
      arith,
      length-append (labelled (text "refused ") (number_of r)) (place_text (notice_of r).met (detail_of r) ++ (text ": " ++ (sentence r ++ text "\n"))),
      length-append (place_text (notice_of r).met (detail_of r)) (text ": " ++ (sentence r ++ text "\n")),
      length-append (sentence r) (text "\n"),
      labelled-length (text "refused ") (number_of r),
      place-length (detail_of r) (notice_of r).met,
      sentence-length r,
    )

module _ (f : Fields) (n at : ℕ) where
  ending : List ℕ
  ending = labelled (text " # number ") n ++ (labelled (text ", byte ") at ++ text "\n")

  pub shot-length : length (shot_line f n at) ≤ 125
  unfolding shot_line ending
  shot-length =
      omega (
        arith,
        length-append (labelled (text "shot ") f.first) (labelled (text " ") f.second ++ (labelled (text " ") f.third ++ ending)),
        length-append (labelled (text " ") f.second) (labelled (text " ") f.third ++ ending),
        length-append (labelled (text " ") f.third) ending,
        length-append (labelled (text " # number ") n) (labelled (text ", byte ") at ++ text "\n"),
        length-append (labelled (text ", byte ") at) (text "\n"),
        labelled-length (text "shot ") f.first,
        labelled-length (text " ") f.second,
        labelled-length (text " ") f.third,
        labelled-length (text " # number ") n,
        labelled-length (text ", byte ") at,
      )
