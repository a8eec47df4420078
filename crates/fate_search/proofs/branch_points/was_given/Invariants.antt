use Rattle.std.proofs.Common.{◌≡◌, ◌<◌, ◌≤◌, ◌-◌, ℕ, false}
use Rattle.fate_search.specs.Branches.{same_told}
use Rattle.fate_search.proofs.branch_points.was_given.Given as goal

-- none so far
abbrev pub invariant-loop-at : goal.invariant-loop-at
invariant-loop-at g l = record {
  held : g.Q.Asked.held l.asked l.rooms ≡ g.Q.Asked.held l.asked l.fn.rooms;
  least : l.low ≤ l.at;
  none : (earlier : ℕ) → l.low ≤ earlier → earlier < l.at
      → same_told (g.Q.Asked.told l.asked l.point) (g.Q.Asked.told l.asked earlier) ≡ false;
}

abbrev pub decreases-loop-at : goal.decreases-loop-at
decreases-loop-at g l = l.point - l.at
