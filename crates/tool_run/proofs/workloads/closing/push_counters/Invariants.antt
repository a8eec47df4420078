use Rattle.std.proofs.Common.{◌≡◌, ◌++◌, take}
use Rattle.walk_texts.specs.Texts.{joined}
use Rattle.run_report.specs.Reports.{counter_lines}
use Rattle.tool_run.proofs.workloads.closing.push_counters.Given as goal

abbrev pub invariant-loop-counter : goal.invariant-loop-counter
invariant-loop-counter l = l.out.items ≡ l.initial.out.items ++ joined (counter_lines (take l.counter-index l.counters))
