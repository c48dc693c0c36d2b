-- The list is the first shots of the slice that they were stored into.
use Rattle.std.proofs.Common.{sym, ◌∙◌, arith}
use Rattle.typed_list.proofs.Listing.{list-shots}
use Rattle.write_shots.proofs.write_text.Goals as goal

pub job-requires : goal.job-requires
job-requires c =
    omega (arith, list-shots _ _ (sym c.read_text.ensures.answer ∙ c.in-Ok.is), c.read_text.auto.coords)
