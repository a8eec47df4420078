use Rattle.std.proofs.Common.{◌≡◌, ℕ, false, List, [], map, take}
use Rattle.fate_search.specs.Found.{found_with, is_known}
use Rattle.fate_search.specs.Kept.{found_in}
use Rattle.fate_search.proofs.fates.is_among.Given as goal

-- none so far
abbrev pub invariant-loop-fate : goal.invariant-loop-fate
invariant-loop-fate l = (points : List ℕ)
    → is_known (map (found_in l.bytes points) (take l.fate-index l.kept)) (found_with [] l.verdict l.frame) ≡ false
