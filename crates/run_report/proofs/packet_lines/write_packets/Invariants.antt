use Rattle.std.proofs.Common.{◌≡◌, ◌≤◌, ◌++◌, ℕ, take}
use Rattle.std.specs.Prelude.{map}
use Rattle.std.specs.List.{enumerate_from}
use Rattle.walk_texts.specs.Texts.{joined}
use Rattle.run_report.specs.declared.outcomes.Outcome.{Outcome}
use Rattle.run_report.specs.PacketTexts.{packet_line}
use Rattle.run_report.specs.PacketTails.{IsHead, AreTold}
use Rattle.run_report.specs.Pages.{IsPaged}
use Rattle.run_report.proofs.packet_lines.write_packets.Given as goal

abbrev pub invariant-loop-place : goal.invariant-loop-place
invariant-loop-place g l = record {
  text : IsPaged (g.O.Sink.written l.initial.out) (g.O.Sink.written l.out)
      (l.initial.page.items ++ joined (map (λ (numbered : ℕ × Outcome). packet_line numbered.0 numbered.1) (take l.place (enumerate_from 1 l.outcomes)))) l.page.items;
  head : IsHead l.head;
  number : l.head.number ≡ l.place;
  told : AreTold l.tails;
  later : g.O.Sink.faults l.initial.out ≤ g.O.Sink.faults l.out;
}
