use Rattle.std.proofs.Common.{◌≡◌, ◌∙◌, refl, sym}
use Rattle.tc_base.specs.declared.hook.Hook.TheVariants.{Ingress, Egress}
use Rattle.pin_store.specs.Sheets.{base_of}
use Rattle.pin_store.specs.Calls.{sheet_of, seen_by}
use Rattle.desk_actions.specs.OfLedgers.Kept.{commits, base}
use Rattle.desk_parts.specs.Desk.{IsDesk, cells, hook_shape}
use Rattle.desk_parts.proofs.Tidied.{tidied_journal, tidied_whole, tidied_actions, tidied_masks, tidied_tables}
use Rattle.desk_parts.proofs.parts.Parts.tidy.Goals as goal

-- src/tidying.rt:20:5
pub returns-clause-desk : goal.returns-clause-desk
returns-clause-desk c = let was = c.args.self.now in let d = c.requires.desk in let told = c.tidy.ensures in let t = told.tidied in
    let h = commits was.ledger in let b = base was.ledger in let lists = was.ledger.lists in let point = was.ledger.point in
    let after = c.tidy.new.writer.place in let k = seen_by after in record {
      shaped = told.store.shaped ∙ sym c.requires.store.shaped ∙ d.shaped;
      whole = tidied_whole h b lists point d.whole was.pools k told.seen (base_of (sheet_of after)) point lists told.lawful refl;
      pools = told.pools;
      sized = (t.0.0 ∙ d.sized.0, t.1.0 ∙ d.sized.1, t.2.0 ∙ d.sized.2, t.3.0 ∙ d.sized.3);
      actions = tidied_actions h b lists point d.whole was.pools k told.seen was.actions d.actions;
      masks = tidied_masks h b lists point d.whole was.pools k told.seen was.masks hook_shape (cells was.ledger) (sheet_of after).cells d.masks told.cells;
      ingress = tidied_tables h b lists point d.whole was.pools k told.seen Ingress was.ingress d.ingress;
      egress = tidied_tables h b lists point d.whole was.pools k told.seen Egress was.egress d.egress;
      idle_ingress = t.4 ∙ d.idle_ingress;
      idle_egress = t.5 ∙ d.idle_egress;
    }

-- src/tidying.rt:20:5
pub returns-clause-journal : goal.returns-clause-journal
returns-clause-journal c = let was = c.args.self.now in
    tidied_journal (commits was.ledger) (base was.ledger) was.ledger.lists was.ledger.point c.requires.desk.whole was.pools (seen_by c.tidy.new.writer.place) c.tidy.ensures.seen
