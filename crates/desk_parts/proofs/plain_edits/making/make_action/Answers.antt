use Rattle.std.proofs.Common.{◌∙◌, sym, subst}
use Rattle.pin_store.specs.declared.shape.Shape.{Shape}
use Rattle.pin_store.specs.Calls.{sheet_of}
use Rattle.hook_store_law.specs.OfEdits.Premises.{now}
use Rattle.desk_actions.specs.OfLedgers.Kept.{commits}
use Rattle.desk_actions.specs.Effects.{KeepsBlocks}
use Rattle.desk_actions.proofs.Stepping.{same_base}
use Rattle.desk_parts.proofs.OfPlainEdits.Desks.{making_plain, to_slot, desk_follows, still_sized, same_ingress, same_egress}
use Rattle.desk_parts.proofs.plain_edits.making.make_action.Goals as goal

-- src/making.rt:22:1
pub returns-clause-desk : goal.returns-clause-desk
returns-clause-desk g c = let was = c.args.parts.now in let d = c.requires.desk in let told = c.make.ensures in let ledger = c.make.new.ledger in let y = g.E.EditName.edit in
    let h = commits was.ledger in let first = sheet_of was.ledger.writer.place in let last = sheet_of ledger.writer.place in
    desk_follows was ledger c.make.new.pools c.make.new.places y c.make.result d (record {
      line = c.requires.edit.1;
      plain = making_plain (now h) c.args.line.now y c.requires.making;
      steps = told.done;
      adds = to_slot h (commits ledger) ledger.point y told.seen;
      shaped = told.store.shaped ∙ sym c.requires.store.shaped ∙ d.shaped;
      same_base = same_base first last told.sheet;
      words = subst (λ (s : Shape). KeepsBlocks s h first last) (sym c.requires.store.shaped ∙ d.shaped) told.others;
      whole = told.whole;
      pools_are = told.pools;
      sized = still_sized was.pools c.make.new.pools told.rest told.blocks.size told.actions.size d.sized;
      ingress = same_ingress was.pools c.make.new.pools told.rest;
      egress = same_egress was.pools c.make.new.pools told.rest;
      actions = told.places;
    })
