use Rattle.std.proofs.Common.{◌∙◌, sym, ap, subst}
use Rattle.pin_store.specs.declared.shape.Shape.{Shape}
use Rattle.pin_store.specs.Calls.{sheet_of}
use Rattle.hook_store_law.specs.OfEdits.Premises.{now}
use Rattle.desk_pools.specs.declared.pools.Pools.{Pools}
use Rattle.desk_actions.specs.OfLedgers.Kept.{commits}
use Rattle.desk_actions.specs.Effects.{KeepsBlocks}
use Rattle.desk_actions.proofs.Stepping.{same_base}
use Rattle.desk_parts.proofs.OfPlainEdits.Desks.{changing_plain, to_slot, desk_follows, still_sized, same_ingress, same_egress, with_same_actions}
use Rattle.desk_parts.proofs.plain_edits.changing.change_action.Goals as goal

-- src/changing.rt:23:1
pub returns-clause-desk : goal.returns-clause-desk
returns-clause-desk g c = let was = c.args.parts.now in let d = c.requires.desk in let told = c.change.ensures in let ledger = c.change.new.ledger in let y = g.E.EditName.edit in
    let h = commits was.ledger in let first = sheet_of was.ledger.writer.place in let last = sheet_of ledger.writer.place in
    let rest = with_same_actions was.pools c.change.new.pools told.rest in
    desk_follows was ledger c.change.new.pools c.change.new.places y c.change.result d (record {
      line = c.requires.edit.1;
      plain = changing_plain (now h) c.args.line.now y c.requires.changing;
      steps = told.done;
      adds = to_slot h (commits ledger) ledger.point y told.seen;
      shaped = told.store.shaped ∙ sym c.requires.store.shaped ∙ d.shaped;
      same_base = same_base first last told.sheet;
      words = subst (λ (s : Shape). KeepsBlocks s h first last) (sym c.requires.store.shaped ∙ d.shaped) told.others;
      whole = told.whole;
      pools_are = told.pools;
      sized = still_sized was.pools c.change.new.pools rest told.blocks.size (ap (λ (q : Pools). q.actions.size) told.rest) d.sized;
      ingress = same_ingress was.pools c.change.new.pools rest;
      egress = same_egress was.pools c.change.new.pools rest;
      actions = told.places;
    })
