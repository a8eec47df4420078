use Rattle.std.proofs.Common.{◌≡◌, ◌+◌, ◌≤◌, ◌++◌, ℕ, take}
use Rattle.std.specs.List.{flat_map, enumerate_from}
use Rattle.walk_texts.specs.Texts.{joined}
use Rattle.run_report.specs.declared.rounds.RoundRecord.{RoundRecord}
use Rattle.run_report.specs.Counts.{edits_in}
use Rattle.run_report.specs.Reports.{round_lines}
use Rattle.run_report.specs.Pages.{IsPaged}
use Rattle.run_report.proofs.reporting.write_rounds.Given as goal

abbrev pub invariant-loop-index : goal.invariant-loop-index
invariant-loop-index g l = record {
  text : IsPaged (g.O.Sink.written l.initial.out) (g.O.Sink.written l.out)
      (l.initial.page.items ++ joined (flat_map (λ (placed : ℕ × RoundRecord). round_lines (placed.0 + 1) (edits_in (take placed.0 l.rounds)) placed.1) (take l.index (enumerate_from 0 l.rounds)))) l.page.items;
  edits : l.edits ≡ edits_in (take l.index l.rounds);
  later : g.O.Sink.faults l.initial.out ≤ g.O.Sink.faults l.out;
}
