use Rattle.std.proofs.Common.{◌≡◌, ◌++◌, List, vec_len}
use Rattle.fate_search.specs.declared.branch_points.Branch.{Branch}
use Rattle.fate_search.specs.Paths.{Sought, WalkWay, AreBehind}
use Rattle.fate_search.proofs.turning.turn_back.Given as goal

-- what was dropped leads to no further way
abbrev pub invariant-loop-branch : goal.invariant-loop-branch
invariant-loop-branch l = record {
  dropped : (rest : List Branch) × (l.fn.path.items ≡ l.path.items ++ rest);
  behind : (s : Sought) (ways : List WalkWay) → AreBehind s l.fn.path.items ways → AreBehind s l.path.items ways;
}

abbrev pub decreases-loop-branch : goal.decreases-loop-branch
decreases-loop-branch l = vec_len l.path
