use Rattle.std.proofs.Common.{◌≡◌, map, take}
use Rattle.job_rounds.specs.SoFar.{all_made}
use Rattle.job_rounds.specs.Counted.{lines_of}
use Rattle.job_rounds.proofs.counting.counters_of.Given as goal

-- the counters of the actions of the first rounds
abbrev pub invariant-loop-actions : goal.invariant-loop-actions
invariant-loop-actions l = l.lines.items ≡ lines_of l.counts-inside.places.items (all_made (map (λ made. made.items) (take l.actions-index l.made)))
