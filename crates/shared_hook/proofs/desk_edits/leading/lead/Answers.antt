use Rattle.std.proofs.Common.{◌∙◌, ◌-◌, length, refl, sym, ap, subst}
use Rattle.pin_store.specs.declared.shape.Shape.{Shape}
use Rattle.pin_store.specs.Calls.{sheet_of}
use Rattle.hook_store_law.specs.OfEdits.Premises.{now}
use Rattle.desk_actions.specs.OfLedgers.Kept.{commits, base}
use Rattle.desk_actions.specs.Effects.{KeepsBlocks}
use Rattle.desk_actions.proofs.Stepping.{same_base}
use Rattle.shared_hook.proofs.OfDeskEdits.Led.{IsFirst, first_is, so_many, some_many, enough_for, is_ahead}
use Rattle.shared_hook.proofs.desk_edits.leading.lead.Goals as goal

pub put_new_actions-requires-clause-accepted : goal.put_new_actions-requires-clause-accepted
put_new_actions-requires-clause-accepted g c = let was = c.args.parts.now in let d = c.requires.desk in let y = g.E.EditName.edit in let h = commits was.ledger in let b = base was.ledger in
    let first : IsFirst h b y c.finish-done.new.self c.finish-done.result = first_is h b was.ledger.lists c.finish-done.new.self was.ledger.point y c.args.prepared.edit c.finish-done.result d.whole c.requires.edit.1 c.requires.edit.0 (c.finish-done.ensures (now h) d.whole.spells) in
    (c.finish-done.result, first.accepted.steps)

pub put_new_actions-requires-clause-spells : goal.put_new_actions-requires-clause-spells
put_new_actions-requires-clause-spells g c = let was = c.args.parts.now in let d = c.requires.desk in let y = g.E.EditName.edit in let h = commits was.ledger in let b = base was.ledger in
    let first : IsFirst h b y c.finish-done.new.self c.finish-done.result = first_is h b was.ledger.lists c.finish-done.new.self was.ledger.point y c.args.prepared.edit c.finish-done.result d.whole c.requires.edit.1 c.requires.edit.0 (c.finish-done.ensures (now h) d.whole.spells) in
    first.spells

pub put_new_actions-requires-clause-enough : goal.put_new_actions-requires-clause-enough
put_new_actions-requires-clause-enough g c = let was = c.args.parts.now in let d = c.requires.desk in let y = g.E.EditName.edit in let h = commits was.ledger in let b = base was.ledger in
    let first : IsFirst h b y c.finish-done.new.self c.finish-done.result = first_is h b was.ledger.lists c.finish-done.new.self was.ledger.point y c.args.prepared.edit c.finish-done.result d.whole c.requires.edit.1 c.requires.edit.0 (c.finish-done.ensures (now h) d.whole.spells) in
    let made_is = c.made-made.ensures ∙ ap (λ r. r.made) c.actions.ensures.actions in (
      enough_for h b y was.ledger.lists c.finish-done.new.self c.finish-done.result d.whole.spells first c.made-made.result made_is (length was.pools.blocks.free) c.requires.enough.0,
      enough_for h b y was.ledger.lists c.finish-done.new.self c.finish-done.result d.whole.spells first c.made-made.result made_is (length was.pools.actions.free) c.requires.enough.1,
    )

pub returns-clause-ahead : goal.returns-clause-ahead
returns-clause-ahead g c = let was = c.args.parts.now in let d = c.requires.desk in let y = g.E.EditName.edit in let h = commits was.ledger in let b = base was.ledger in
    let first : IsFirst h b y c.finish-done.new.self c.finish-done.result = first_is h b was.ledger.lists c.finish-done.new.self was.ledger.point y c.args.prepared.edit c.finish-done.result d.whole c.requires.edit.1 c.requires.edit.0 (c.finish-done.ensures (now h) d.whole.spells) in
    let made_is = c.made-made.ensures ∙ ap (λ r. r.made) c.actions.ensures.actions in
    let told = c.put_new_actions.ensures in let many = some_many h b y was.ledger.lists c.finish-done.new.self c.finish-done.result d.whole.spells first c.made-made.result made_is c.requires.edit.2 in let some = c.finish-done.new.self.actions.made - c.made-made.result in
    let old_sheet = sheet_of was.ledger.writer.place in let new_sheet = sheet_of c.put_new_actions.new.writer.place in
    is_ahead was (record was.ledger { lists = c.finish-done.new.self; writer = c.put_new_actions.new.writer }) c.put_new_actions.new.pools c.put_new_actions.new.places y c.finish-done.result d (record {
      first = first;
      put = told.put;
      point = refl;
      shaped = told.store.shaped ∙ sym c.requires.store.shaped ∙ d.shaped;
      same_base = same_base old_sheet new_sheet told.sheet;
      words = subst (λ (s : Shape). KeepsBlocks s h old_sheet new_sheet) (sym c.requires.store.shaped ∙ d.shaped) told.words;
      pools_are = told.pools;
      rest = told.others;
      block_size = (told.blocks some many).size;
      slot_size = (told.actions some many).size;
      actions = told.places;
      earlier = told.earlier;
      apart = told.apart;
    })

pub returns-clause-done : goal.returns-clause-done
returns-clause-done g c = let was = c.args.parts.now in let d = c.requires.desk in let y = g.E.EditName.edit in let h = commits was.ledger in let b = base was.ledger in
    let first : IsFirst h b y c.finish-done.new.self c.finish-done.result = first_is h b was.ledger.lists c.finish-done.new.self was.ledger.point y c.args.prepared.edit c.finish-done.result d.whole c.requires.edit.1 c.requires.edit.0 (c.finish-done.ensures (now h) d.whole.spells) in
    first.accepted.steps

pub returns-clause-blocks : goal.returns-clause-blocks
returns-clause-blocks g c = let was = c.args.parts.now in let d = c.requires.desk in let y = g.E.EditName.edit in let h = commits was.ledger in let b = base was.ledger in
    let first : IsFirst h b y c.finish-done.new.self c.finish-done.result = first_is h b was.ledger.lists c.finish-done.new.self was.ledger.point y c.args.prepared.edit c.finish-done.result d.whole c.requires.edit.1 c.requires.edit.0 (c.finish-done.ensures (now h) d.whole.spells) in
    let made_is = c.made-made.ensures ∙ ap (λ r. r.made) c.actions.ensures.actions in
    λ taken is. c.put_new_actions.ensures.blocks taken (so_many h b y was.ledger.lists c.finish-done.new.self c.finish-done.result d.whole.spells first c.made-made.result made_is taken is)

pub returns-clause-actions : goal.returns-clause-actions
returns-clause-actions g c = let was = c.args.parts.now in let d = c.requires.desk in let y = g.E.EditName.edit in let h = commits was.ledger in let b = base was.ledger in
    let first : IsFirst h b y c.finish-done.new.self c.finish-done.result = first_is h b was.ledger.lists c.finish-done.new.self was.ledger.point y c.args.prepared.edit c.finish-done.result d.whole c.requires.edit.1 c.requires.edit.0 (c.finish-done.ensures (now h) d.whole.spells) in
    let made_is = c.made-made.ensures ∙ ap (λ r. r.made) c.actions.ensures.actions in
    λ taken is. c.put_new_actions.ensures.actions taken (so_many h b y was.ledger.lists c.finish-done.new.self c.finish-done.result d.whole.spells first c.made-made.result made_is taken is)
