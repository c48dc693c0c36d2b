-- Each table is that of its weight at all 256 patterns, which is computed.
use Rattle.lattice.specs.Pattern.{of_byte, w, ax, ay, az, ex, ey, ez, ix, iy, iz}
use Rattle.lattice_tables.specs.declared.Weight.TheVariants.{W, Ax, Ay, Az, Ex, Ey, Ez, Ix, Iy, Iz}
use Rattle.lattice_tables.proofs.TableLaws.{table-weighs}
use Rattle.lattice_tables.proofs.table.Goals as goal

pub returns-in-W : goal.returns-in-W
unfolding w of_byte
returns-in-W c = table-weighs W c.in-W.is

pub returns-in-Ax : goal.returns-in-Ax
unfolding ax of_byte
returns-in-Ax c = table-weighs Ax c.in-Ax.is

pub returns-in-Ay : goal.returns-in-Ay
unfolding ay of_byte
returns-in-Ay c = table-weighs Ay c.in-Ay.is

pub returns-in-Az : goal.returns-in-Az
unfolding az of_byte
returns-in-Az c = table-weighs Az c.in-Az.is

pub returns-in-Ex : goal.returns-in-Ex
unfolding ex of_byte
returns-in-Ex c = table-weighs Ex c.in-Ex.is

pub returns-in-Ey : goal.returns-in-Ey
unfolding ey of_byte
returns-in-Ey c = table-weighs Ey c.in-Ey.is

pub returns-in-Ez : goal.returns-in-Ez
unfolding ez of_byte
returns-in-Ez c = table-weighs Ez c.in-Ez.is

pub returns-in-Ix : goal.returns-in-Ix
unfolding ix of_byte
returns-in-Ix c = table-weighs Ix c.in-Ix.is

pub returns-in-Iy : goal.returns-in-Iy
unfolding iy of_byte
returns-in-Iy c = table-weighs Iy c.in-Iy.is

pub returns-in-Iz : goal.returns-in-Iz
unfolding iz of_byte
returns-in-Iz c = table-weighs Iz c.in-Iz.is
