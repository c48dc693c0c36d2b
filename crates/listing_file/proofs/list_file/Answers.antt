-- The file is read, and the list that it holds is listed.
use mathlib.Core.Path.{refl}
use Rattle.std.proofs.lemmas.Result.{err_from_is_err_and}
use Rattle.quoting_text.proofs.TextLaws.{list-there}
use Rattle.listing_file.proofs.ListingLaws.{file-unlisted, file-listed}
use Rattle.listing_file.proofs.list_file.Goals as goal

pub returns-in_err-stored : goal.returns-in_err-stored
returns-in_err-stored c = let p = err_from_is_err_and c.from_residual.result c.from_residual.ensures.1 in
    rw (p.1, p.2) (file-unlisted c.in_err-stored.ensures _ refl)

pub job-requires : goal.job-requires
job-requires c = list-there c.in_ok-stored.ensures refl

pub returns : goal.returns
returns c = file-listed c.in_ok-stored.ensures refl c.job.ensures c.list.ensures
