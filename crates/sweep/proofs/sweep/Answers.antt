-- The slots cover what the list's shots cover.
use Rattle.sweep.proofs.SweepLaws.{slots-given, same-found}
use Rattle.sweep.proofs.sweep.Goals as goal

pub sweep_boxes-requires : goal.sweep_boxes-requires
sweep_boxes-requires c = slots-given c.args.list.holds.valid c.fill_slots-n.ensures.slots

pub returns : goal.returns
returns c = same-found _ _ _ c.fill_slots-n.ensures.slots.same_cells _ c.sweep_boxes.ensures
