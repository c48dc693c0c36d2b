-- Interval after interval makes the number.
use Prim.Native.Nat.{◌/◌}
use native.Mathlib.Omega.{arith}
use Rattle.acceptance.proofs.Numbers.{slab-most, number-most, number_is}
use Rattle.acceptance.proofs.cover_test.holding_cell.Goals as goal

pub numbered-row-requires : goal.numbered-row-requires
numbered-row-requires c = record { high_bound = omega (arith, slab-most c.args.grid (c.args.field / c.args.grid) c.args.i c.numbered-slab.ensures c.ranges.i.fits); le_width = c.requires.bound }

pub numbered-requires : goal.numbered-requires
numbered-requires c = let w = c.args.field / c.args.grid in
    record { high_bound = omega (arith, c.numbered-row.ensures, number-most w (slab-most c.args.grid w c.args.i c.numbered-slab.ensures c.ranges.i.fits) c.ranges.grid.fits c.ranges.j.fits); le_width = c.requires.bound }

pub returns : goal.returns
returns c = number_is c.args.grid (c.args.field / c.args.grid) c.args.i c.args.j c.args.k c.numbered-slab.ensures c.numbered-row.ensures c.numbered.ensures
