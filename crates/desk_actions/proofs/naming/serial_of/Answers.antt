use Rattle.std.proofs.Common.{◌∙◌, Some, None, ap, sym, refl}
use Rattle.action_plan.specs.Entries.{action_of, actions_of}
use Rattle.desk_actions.proofs.Names.{found_entry, live_found}
use Rattle.desk_actions.proofs.naming.serial_of.Goals as goal

pub unreachable-requires : goal.unreachable-requires
unreachable-requires c = let xs = c.args.lists.now.actions.entries in let f = live_found c.args.kind c.args.index (actions_of xs) c.requires in
    let none = found_entry c.args.kind c.args.index c.number.result c.actions.result.now.entries xs None c.number.ensures (ap (λ r. r.entries) c.actions.ensures.actions) c.in-None.ensures in
    let bad = sym none ∙ f.1 in cc bad

pub returns : goal.returns
returns c = let xs = c.args.lists.now.actions.entries in
    (action_of c.in-Some.entry.now, found_entry c.args.kind c.args.index c.number.result c.actions.result.now.entries xs (Some c.in-Some.entry.now) c.number.ensures (ap (λ r. r.entries) c.actions.ensures.actions) c.in-Some.ensures, refl)
