use Rattle.std.proofs.Common.{◌≡◌}
use Rattle.std.specs.Prelude.{decimal}
use Rattle.tool_run.specs.Endings.{ending_of}
use Rattle.run_report.proofs.Counting.{IsCarriedIn}
use Rattle.tool_run.proofs.PacketLines.{label}
use Rattle.tool_run.proofs.packet_line.PacketLine.count_up.Given as goal

-- each digit so far was 9, and is 0
abbrev pub invariant-loop-at : goal.invariant-loop-at
invariant-loop-at l = record {
  carried : IsCarriedIn label (decimal l.initial.self.number) (ending_of l.initial.self.end)
      l.self.text.items l.at;
  number : l.self.number ≡ l.initial.self.number;
  end : l.self.end ≡ l.initial.self.end;
  digits : l.self.digits_end ≡ l.initial.self.digits_end;
}

abbrev pub decreases-loop-at : goal.decreases-loop-at
decreases-loop-at l = l.at
