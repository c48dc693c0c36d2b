-- Checked first, then stored.
use Rattle.std.proofs.Common.{sym, ◌∙◌}
use Rattle.typed_list.proofs.Listing.{typed-places, list-room, list-stored, mistake-stored}
use Rattle.typed_list.proofs.read_text.Goals as goal

pub returns-in_err-list-clause-coordinates : goal.returns-in_err-list-clause-coordinates
returns-in_err-list-clause-coordinates c = sym (mistake-stored c.args.text.now c.args.coords.now (sym (typed-places c.args.text.now c.in_err-list.ensures c.count.ensures)))

pub store_text-requires : goal.store_text-requires
store_text-requires c = list-room c.args.text.now c.args.coords.now (sym (typed-places c.args.text.now c.in_ok-list.ensures c.count.ensures))

pub returns-clause-coordinates : goal.returns-clause-coordinates
returns-clause-coordinates c =
    c.store_text.ensures
    ∙ sym (list-stored c.args.text.now c.args.coords.now (sym (typed-places c.args.text.now c.in_ok-list.ensures c.count.ensures)))
