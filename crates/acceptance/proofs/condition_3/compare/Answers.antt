-- Two lists, listed and compared.
use Rattle.acceptance.proofs.Condition3.{listed-fits, cells-compared}
use Rattle.acceptance.proofs.condition_3.compare.Goals as goal

pub compare_listed-requires : goal.compare_listed-requires
compare_listed-requires c = record { fits = listed-fits c.list-one.ensures c.list-one.auto.buffer; other_fits = listed-fits c.list-two.ensures c.list-two.auto.buffer }

pub returns : goal.returns
returns c = cells-compared c.list-one.ensures c.list-two.ensures c.compare_listed.ensures
