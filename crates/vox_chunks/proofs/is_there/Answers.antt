-- The part of four bytes from the place on is compared.
use Rattle.vox_chunks.proofs.ChunkLaws.{name-stands}
use Rattle.vox_chunks.proofs.is_there.Goals as goal

pub returns : goal.returns
returns c = name-stands _ _ _ c.same_bytes.ensures
