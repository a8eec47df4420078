use Rattle.std.proofs.Common.{◌≤◌, ◌++◌, take}
use Rattle.walk_texts.specs.Texts.{joined}
use Rattle.run_report.specs.Reports.{counter_lines}
use Rattle.run_report.specs.Pages.{IsPaged}
use Rattle.run_report.proofs.reporting.write_counters.Given as goal

abbrev pub invariant-loop-counter : goal.invariant-loop-counter
invariant-loop-counter g l = record {
  text : IsPaged (g.O.Sink.written l.initial.out) (g.O.Sink.written l.out)
      (l.initial.page.items ++ joined (counter_lines (take l.counter-index l.counters))) l.page.items;
  later : g.O.Sink.faults l.initial.out ≤ g.O.Sink.faults l.out;
}
