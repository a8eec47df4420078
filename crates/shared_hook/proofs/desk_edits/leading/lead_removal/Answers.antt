use Rattle.hook_store_law.specs.OfEdits.Premises.{now}
use Rattle.desk_actions.specs.OfLedgers.Kept.{commits, base}
use Rattle.shared_hook.proofs.OfDeskEdits.Led.{IsFirst, first_is}
use Rattle.shared_hook.proofs.OfDeskEdits.Removed.{is_ahead_removal}
use Rattle.shared_hook.proofs.desk_edits.leading.lead_removal.Goals as goal

pub returns-clause-ahead : goal.returns-clause-ahead
returns-clause-ahead g c = let was = c.args.parts.now in let d = c.requires.desk in let y = g.E.EditName.edit in let h = commits was.ledger in let b = base was.ledger in
    let first : IsFirst h b y c.finish.new.self c.finish.result = first_is h b was.ledger.lists c.finish.new.self was.ledger.point y c.args.prepared.edit c.finish.result d.whole c.requires.edit.1 c.requires.edit.0 (c.finish.ensures (now h) d.whole.spells) in
    is_ahead_removal was c.finish.new.self y c.finish.result d first c.requires.edit.2 c.requires.removal

pub returns-clause-done : goal.returns-clause-done
returns-clause-done g c = let was = c.args.parts.now in let d = c.requires.desk in let y = g.E.EditName.edit in let h = commits was.ledger in let b = base was.ledger in
    let first : IsFirst h b y c.finish.new.self c.finish.result = first_is h b was.ledger.lists c.finish.new.self was.ledger.point y c.args.prepared.edit c.finish.result d.whole c.requires.edit.1 c.requires.edit.0 (c.finish.ensures (now h) d.whole.spells) in
    first.accepted.steps
