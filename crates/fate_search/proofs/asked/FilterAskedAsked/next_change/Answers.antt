use Rattle.fate_search.proofs.asked.FilterAskedAsked.next_change.Goals as goal

pub returns : goal.returns
returns g c = c.look_up_after.ensures c.args.self.now.table
