-- The file is read, the list that it holds is measured, and the answer has its text.
use Rattle.quoting_text.proofs.TextLaws.{file-there, file-quoted}
use Rattle.quoting.proofs.quote.Goals as goal

pub measure_read-measured-requires : goal.measure_read-measured-requires
measure_read-measured-requires c = file-there c.read-read.ensures

pub returns : goal.returns
returns c = file-quoted c.read-read.ensures c.measure_read-measured.ensures c.put_answer.ensures
