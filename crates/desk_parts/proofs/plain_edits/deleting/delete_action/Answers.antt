use Rattle.std.proofs.Common.{◌∙◌, inl, refl, sym, ap, subst, arith}
use Rattle.pin_store.specs.Sheets.{base_of}
use Rattle.pin_store.specs.Calls.{sheet_of}
use Rattle.hook_store_law.specs.OfEdits.Premises.{IsOfFilters}
use Rattle.desk_actions.specs.OfLedgers.Ledger.{mark_at}
use Rattle.desk_actions.specs.OfLedgers.Kept.{commits}
use Rattle.desk_parts.specs.Desk.{hook_shape}
use Rattle.desk_parts.proofs.OfPlainEdits.Desks.{desk_follows, still_sized, same_ingress, same_egress, same_words}
use Rattle.desk_parts.proofs.OfPlainEdits.Rooms.{room_of_slot, room_of_block}
use Rattle.desk_parts.proofs.plain_edits.deleting.delete_action.Goals as goal

-- src/deleting.rt:54:5
pub delete-requires-clause-blocks : goal.delete-requires-clause-blocks
delete-requires-clause-blocks g c = room_of_block c.args.parts.now c.requires.desk c.args.kind c.args.index c.requires.live

-- src/deleting.rt:54:5
pub delete-requires-clause-actions : goal.delete-requires-clause-actions
delete-requires-clause-actions g c = room_of_slot c.args.parts.now c.requires.desk c.args.kind c.args.index c.requires.live

-- src/deleting.rt:23:1
pub returns-clause-desk : goal.returns-clause-desk
returns-clause-desk g c = let was = c.args.parts.now in let d = c.requires.desk in let told = c.delete.ensures in let ledger = c.delete.new.ledger in let y = g.E.EditName.edit in
    desk_follows was ledger c.delete.new.pools was.actions y c.delete.result d (record {
      line = c.requires.edit.1;
      plain = λ is. subst IsOfFilters c.requires.edit.2 is;
      steps = told.done;
      adds = record { commit = mark_at ledger.point y; number = ledger.point; seen = told.seen; carries = refl; aside = inl (omega arith) };
      shaped = told.store.shaped ∙ sym c.requires.store.shaped ∙ d.shaped;
      same_base = ap base_of told.sheet;
      words = same_words hook_shape (commits was.ledger) (sheet_of was.ledger.writer.place) (sheet_of ledger.writer.place) told.sheet;
      whole = told.whole;
      pools_are = told.pools;
      sized = still_sized was.pools c.delete.new.pools told.rest told.left_blocks.size told.left_slots.size d.sized;
      ingress = same_ingress was.pools c.delete.new.pools told.rest;
      egress = same_egress was.pools c.delete.new.pools told.rest;
      actions = told.places;
    })
