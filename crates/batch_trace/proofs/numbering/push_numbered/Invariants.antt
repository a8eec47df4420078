use Rattle.std.proofs.Common.{◌≡◌, ◌++◌, ℕ, List, length}
use Rattle.batch_trace.specs.Kept.{at_number, behind_head, AreEnds}
use Rattle.batch_trace.proofs.numbering.push_numbered.Given as goal

-- the lines that are left stand for those that aren't in the text yet
abbrev pub invariant-loop-line : goal.invariant-loop-line
invariant-loop-line l = (ends : List (List ℕ)) → AreEnds ends → l.lines ≡ behind_head (at_number 0) ends
    → (left : List (List ℕ)) × AreEnds left × (l.left ≡ behind_head (at_number 0) left)
    × (l.text.items ++ behind_head l.head left ≡ l.initial.text.items ++ behind_head l.head ends)

abbrev pub decreases-loop-line : goal.decreases-loop-line
decreases-loop-line l = length l.left
