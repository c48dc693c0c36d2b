-- One table after the other. Assumes nothing.
use Rattle.price_bands.specs.Bands.{verdict_of}
use Rattle.price_charging.proofs.TableLaws.{after_first}
use Rattle.price_charging.proofs.check_tables.Goals as goal

pub returns : goal.returns
returns c =
    rw (c.after_tables.ensures, c.check.ensures, c.check-2.ensures, c.check-3.ensures)
    (after_first (verdict_of c.args.volume.now) (verdict_of c.args.area.now) (verdict_of c.args.edges.now))
