-- `take_record` answers `record_at`: each way out is one law of `Taking`. Assumes nothing.
use mathlib.Core.Path.{sym, ◌∙◌}
use Rattle.shotfile_records.proofs.Taking.{no-map, unknown_bit, cut_short, needless_field, taken-whole}
use Rattle.shotfile_records.proofs.take_record.Goals as goal

pub returns-then-bytes-at : goal.returns-then-bytes-at
returns-then-bytes-at c = no-map _ _ _ c.if-bytes-at.true

pub returns-then-map-ge8 : goal.returns-then-map-ge8
returns-then-map-ge8 c = unknown_bit _ _ _ c.if-bytes-at.false c.if-map-ge8.true

pub returns-then-bytes-end : goal.returns-then-bytes-end
returns-then-bytes-end c = cut_short c.args.bytes.now _ c.args.absent c.if-bytes-at.false c.if-map-ge8.false c.from.ensures c.from-2.ensures c.from-3.ensures c.if-bytes-end.true

pub returns-then-map-map_of : goal.returns-then-map-map_of
returns-then-map-map_of c = needless_field c.args.bytes.now _ c.args.absent c.if-bytes-at.false c.if-map-ge8.false c.from.ensures c.from-2.ensures c.from-3.ensures c.if-bytes-end.false c.field.ensures c.field-2.ensures c.field-3.ensures (λ e. c.if-map-map_of.true (e ∙ sym c.map_of.ensures))

pub returns : goal.returns
returns c = taken-whole c.args.bytes.now _ c.args.absent c.if-bytes-at.false c.if-map-ge8.false c.from.ensures c.from-2.ensures c.from-3.ensures c.if-bytes-end.false c.field.ensures c.field-2.ensures c.field-3.ensures (c.if-map-map_of.false ∙ c.map_of.ensures)
