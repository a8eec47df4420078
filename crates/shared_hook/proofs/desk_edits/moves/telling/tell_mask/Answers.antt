use Rattle.std.proofs.Common.{◌∙◌, sym, subst}
use Rattle.std.specs.Prelude.{All}
use Rattle.mask_order.specs.Fitting.{FitsBlock}
use Rattle.shared_hook.proofs.OfDeskEdits.OfMoves.Stored.{can_be_told, told_same, told_fit}
use Rattle.shared_hook.proofs.desk_edits.moves.telling.tell_mask.Goals as goal

pub tell_all-requires-clause-can : goal.tell_all-requires-clause-can
tell_all-requires-clause-can c = let t = c.requires.there in let list = c.list_of-list.ensures t.1 t.2 t.3.spells t.4 in
    can_be_told c.args.lists.now c.args.places.now t.0 t.1 t.3 c.args.line.now t.2 c.list_of-list.result.now.filters.filters list.filters

pub returns-clause-serial : goal.returns-clause-serial
returns-clause-serial c = λ s serial h can answered. c.serial.ensures ∙ (c.list_of-list.ensures s serial can.spells answered).serial_is

pub returns-clause-filters : goal.returns-clause-filters
returns-clause-filters c = λ s serial h can answered. let list = c.list_of-list.ensures s serial can.spells answered in
    told_same c.args.lists.now c.args.places.now h s can c.args.line.now serial c.list_of-list.result.now.filters.filters list.filters ∙ sym c.tell_all.ensures

pub returns-clause-fit : goal.returns-clause-fit
returns-clause-fit c = let t = c.requires.there in let list = c.list_of-list.ensures t.1 t.2 t.3.spells t.4 in
    subst (All FitsBlock) (sym c.tell_all.ensures) (told_fit c.args.lists.now c.args.places.now t.0 t.1 t.3 c.args.line.now t.2 c.list_of-list.result.now.filters.filters list.filters)
