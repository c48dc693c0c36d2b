-- `put_map` writes the map as one byte. Assumes nothing.
use Rattle.shotfile_records.proofs.Putting.{put_map}
use Rattle.shotfile_records.proofs.put_map.Goals as goal

pub returns : goal.returns
returns c = put_map _ _ _ _ c.requires c.map_of.ensures
