-- The cover test names the first of the run.
use Rattle.acceptance.proofs.CoverTest.{first-named}
use Rattle.acceptance.proofs.cover_test.first_covering.Goals as goal

pub returns : goal.returns
returns c = first-named c.args.edge c.args.coords.now c.args.run.now c.args.i c.args.j c.args.k c.first_covering.ensures
