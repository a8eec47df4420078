use Rattle.std.proofs.Common.{◌≡◌, ◌+◌, ◌≤◌, ◌++◌, ℕ, take}
use Rattle.std.specs.Prelude.{map}
use Rattle.std.specs.List.{enumerate_from}
use Rattle.walk_texts.specs.Texts.{joined}
use Rattle.run_report.specs.declared.events.Event.{Event}
use Rattle.run_report.specs.Counts.{accepted_count}
use Rattle.run_report.specs.EventTexts.{event_line}
use Rattle.run_report.specs.Pages.{IsPaged}
use Rattle.run_report.proofs.event_lines.write_events.Given as goal

abbrev pub invariant-loop-event : goal.invariant-loop-event
invariant-loop-event g l = record {
  text : IsPaged (g.O.Sink.written l.initial.out) (g.O.Sink.written l.out)
      (l.initial.page.items ++ joined (map (λ (placed : ℕ × Event). event_line (l.fn.before + accepted_count (take placed.0 l.events)) placed.1) (take l.event-index (enumerate_from 0 l.events)))) l.page.items;
  edits : l.edits ≡ l.fn.before + accepted_count (take l.event-index l.events);
  later : g.O.Sink.faults l.initial.out ≤ g.O.Sink.faults l.out;
}
