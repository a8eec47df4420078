use Rattle.std.proofs.Common.{◌≤◌, ◌+◌, ◌-◌}
use Rattle.fate_search.proofs.Giving.{NoneFrom}
use Rattle.fate_search.proofs.branch_points.first_branch.Given as goal

-- none so far
abbrev pub invariant-loop-at : goal.invariant-loop-at
invariant-loop-at g l = record {
  above : l.from ≤ l.at;
  none : NoneFrom (g.Q.Asked.told l.asked) l.low l.from l.at;
}

abbrev pub decreases-loop-at : goal.decreases-loop-at
decreases-loop-at g l = (l.ceiling + 1) - l.at
