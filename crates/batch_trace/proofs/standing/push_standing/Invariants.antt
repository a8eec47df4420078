use Rattle.std.proofs.Common.{◌≡◌, ◌++◌, take}
use Rattle.std.specs.List.{flat_map}
use Rattle.walk_trace.specs.Tallies.{count_at}
use Rattle.batch_trace.specs.Meeting.{shown_standing}
use Rattle.batch_trace.proofs.standing.push_standing.Given as goal

abbrev pub invariant-loop-filter : goal.invariant-loop-filter
invariant-loop-filter l = l.text.items ≡ l.fn.text.items ++ flat_map (shown_standing l.hook (count_at l.tally)) (take l.filter-index l.brought)
