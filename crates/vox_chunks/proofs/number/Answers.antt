-- The four bytes make the number.
use Rattle.vox_chunks.specs.Chunks.{number_at}
use borrow.Author.Rules.{rules}
use Rattle.vox_chunks.proofs.number.Goals as goal

pub returns : goal.returns
unfolding number_at
returns c = search rules
