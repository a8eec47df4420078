use Rattle.fate_search.proofs.Giving.{behind_change, behind_last}
use Rattle.fate_search.proofs.branch_points.next_branch.Goals as goal

pub returns-in-Some : goal.returns-in-Some
returns-in-Some g c =
    behind_change (g.Q.Asked.told c.args.asked.now) c.args.low c.args.point c.in-Some.later c.args.ceiling
    c.first_branch.result c.requires c.in-Some.ensures c.first_branch.ensures

pub returns-in-None : goal.returns-in-None
returns-in-None g c =
    behind_last (g.Q.Asked.told c.args.asked.now) c.args.low c.args.point c.args.ceiling c.requires c.in-None.ensures
