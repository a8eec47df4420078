use Rattle.std.proofs.Common.{◌≡◌, ◌++◌, take}
use Rattle.job_rounds.specs.Counted.{lines_of}
use Rattle.job_rounds.proofs.counting.push_lines.Given as goal

abbrev pub invariant-loop-action : goal.invariant-loop-action
invariant-loop-action l = l.lines.items ≡ l.initial.lines.items ++ lines_of l.counts (take l.action-index l.made)
