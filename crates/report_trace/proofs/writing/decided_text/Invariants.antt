use Rattle.std.proofs.Common.{◌≡◌, take}
use Rattle.std.specs.List.{flat_map}
use Rattle.walk_trace.specs.Tallies.{count_at}
use Rattle.report_trace.proofs.Decided.{line_with}
use Rattle.report_trace.proofs.writing.decided_text.Given as goal

abbrev pub invariant-loop-filter : goal.invariant-loop-filter
invariant-loop-filter l = l.text.items ≡ flat_map (line_with (count_at l.tally)) (take l.filter-index l.brought)
