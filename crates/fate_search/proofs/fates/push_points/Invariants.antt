use Rattle.std.proofs.Common.{◌≡◌, ◌++◌, take}
use Rattle.fate_search.specs.Paths.{points_of}
use Rattle.fate_search.proofs.fates.push_points.Given as goal

abbrev pub invariant-loop-branch : goal.invariant-loop-branch
invariant-loop-branch l = l.points.items ≡ l.fn.points.items ++ points_of (take l.branch-index l.path)
