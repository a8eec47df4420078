use Rattle.std.proofs.Common.{◌≡◌, length, ◌∙◌, rules}
use Rattle.std.proofs.lemmas.List.Edits.{insert_end}
use Rattle.act_registry.proofs.room.push_within.Goals as goal

pub returns-clause-items : goal.returns-clause-items
returns-clause-items g c =
    let end : c.len-end.result ≡ length c.args.items.now.items = search rules in
    c.insert_within.ensures.items ∙ rw end (insert_end c.args.items.now.items c.args.item)
