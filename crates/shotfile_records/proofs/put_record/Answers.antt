-- `put_record` writes the map and the three fields, one after the other. Assumes nothing.
use Rattle.buffer.proofs.WroteLaws.{wrote-length}
use Rattle.shotfile_records.proofs.Putting.{room-map, room-first, room-second, room-third, put_all}
use Rattle.shotfile_records.proofs.put_record.Goals as goal

pub put_map-first-requires : goal.put_map-first-requires
put_map-first-requires c = room-map c.args.absent c.args.fields c.args.bytes.now _ c.requires

pub put_field-second-requires : goal.put_field-second-requires
put_field-second-requires c = room-first c.args.absent c.args.fields _ c.requires c.put_map-first.ensures

pub put_field-third-requires : goal.put_field-third-requires
put_field-third-requires c = room-second c.args.absent c.args.fields _ c.requires c.put_map-first.ensures c.put_field-second.ensures

pub put_field-requires : goal.put_field-requires
put_field-requires c = room-third c.args.absent c.args.fields _ c.requires c.put_map-first.ensures c.put_field-second.ensures c.put_field-third.ensures

pub shape_of-bytes : goal.shape_of-bytes
shape_of-bytes c = wrote-length (put_all c.args.absent c.args.fields _ c.requires c.put_map-first.ensures c.put_field-second.ensures c.put_field-third.ensures c.put_field.ensures)

pub returns : goal.returns
returns c = put_all c.args.absent c.args.fields _ c.requires c.put_map-first.ensures c.put_field-second.ensures c.put_field-third.ensures c.put_field.ensures
