-- The file is read, the list that it holds is counted, and the answer has its text.
use Rattle.quoting_text.proofs.TextLaws.{file-there, file-quoted}
use Rattle.recounting.proofs.recount.Goals as goal

pub recount_read-measured-requires : goal.recount_read-measured-requires
recount_read-measured-requires c = file-there c.read-read.ensures

pub returns : goal.returns
returns c = file-quoted c.read-read.ensures c.recount_read-measured.ensures c.put_answer.ensures
