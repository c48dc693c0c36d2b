-- The first places of the slice are a slice of their own.
use mathlib.Core.Path.{sym}
use native.Mathlib.Omega.{arith}
use lib.Seq.{length-take-le, length_front}
use Rattle.crediting.proofs.FieldLaws.{credits-long}
use Rattle.crediting.proofs.store.Goals as goal

pub slice_bounds-credit_shots-end : goal.slice_bounds-credit_shots-end
slice_bounds-credit_shots-end c = omega (arith, c.count-shots.ensures, c.requires.shots_placed)

pub slice_bounds-credit_shots-end-2 : goal.slice_bounds-credit_shots-end-2
slice_bounds-credit_shots-end-2 c = sym (length-take-le _ _ (omega (arith, c.count-shots.ensures, c.requires.shots_placed)))

pub credit_shots-requires : goal.credit_shots-requires
credit_shots-requires c = record { shots_placed = omega (arith, c.count-shots.ensures, length-take-le c.count-shots.result c.args.credits.now (omega (arith, c.count-shots.ensures, c.requires.shots_placed))) }

pub shape_of-credits : goal.shape_of-credits
shape_of-credits c = length_front c.args.credits.now c.credit_shots.new.credits c.count-shots.result c.credit_shots.auto.credits

pub returns : goal.returns
returns c = let a = c.args.list.job in
    rw (c.credit_shots.ensures, c.count-shots.ensures, credits-long a.field a.edge a.coords.now)
