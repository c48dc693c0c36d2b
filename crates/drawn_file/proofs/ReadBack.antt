-- The shot file of a drawing says what the drawing says, so that whatever a program does with a shot file it does with the drawing. Assumes
-- nothing.
use mathlib.Core.Path.{◌≡◌, sym, ◌∙◌, ap, subst}
use mathlib.Core.List.{List}
use Prim.Native.Nat.{ℕ}
use lib.ListN.{length, take, drop}
use lib.Seq.{take_at}
use Rattle.job.specs.Job.{shot_count}
use Rattle.shotfile_reader.specs.Files.{file_in}
use Rattle.shotfile_reader.proofs.Accepted.{Fits}
use Rattle.shotfile_writer.specs.Calls.{WriteAnswer}
use Rattle.std.specs.Prelude.{Ok}
use Rattle.shotfile_writer.specs.Files.{file_of}
use Rattle.shotfile.proofs.RoundTrip.{read-written}
use Rattle.vox.specs.Vox.{vox_in}
use Rattle.vox.proofs.Fits.{vox-fits}
use Rattle.drawn_file.specs.Drawn.{FileDrawn}
use Rattle.drawn_file.proofs.DrawnLaws.{drawing-of}

-- where the call answers that it wrote n bytes, a reader of shot files gets from them what `read_vox` gets from the drawing
pub drawn-again : {bytes coords lent coords' lent' : List ℕ} {w : WriteAnswer} → FileDrawn bytes coords lent w coords' lent'
    → {n : ℕ} → w ≡ Ok n → file_in (shot_count coords) (take n lent') ≡ vox_in (shot_count coords) bytes
drawn-again {bytes} {coords} {lent} call {n} e =
    let d = drawing-of call e in
    let a = d.written in
    let bytes_of = file_of d.job in
    let places = (subst (Fits (shot_count coords)) d.is (vox-fits (shot_count coords) bytes)).1 in
    ap (file_in (shot_count coords)) (ap (take n) a.leaves ∙ take_at bytes_of (drop (length bytes_of) lent) n (sym a.long))
    ∙ read-written d.job (shot_count coords) a.valid places
    ∙ sym d.is
