-- The file is read, and the cells of the list that it holds are credited.
use Rattle.quoting_text.proofs.TextLaws.{list-there}
use Rattle.crediting_text.proofs.TextLaws.{file-uncredited, file-credited}
use Rattle.crediting_text.proofs.credit_file.Goals as goal

pub job-requires : goal.job-requires
job-requires c = list-there c.read-read.ensures c.in-Ok.is

pub returns-in-Ok : goal.returns-in-Ok
returns-in-Ok c = file-credited c.read-read.ensures c.in-Ok.is c.job.ensures c.credit_list.ensures

pub returns-in-Err : goal.returns-in-Err
returns-in-Err c = file-uncredited c.read-read.ensures c.in-Err.refusal c.in-Err.is c.refuse.ensures
