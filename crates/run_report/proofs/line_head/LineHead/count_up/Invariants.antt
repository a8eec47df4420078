use Rattle.std.proofs.Common.{◌≡◌, []}
use Rattle.std.specs.Prelude.{decimal}
use Rattle.run_report.proofs.Counting.{IsCarriedIn}
use Rattle.run_report.proofs.Heads.{label}
use Rattle.run_report.proofs.line_head.LineHead.count_up.Given as goal

-- each digit so far was 9, and is 0
abbrev pub invariant-loop-at : goal.invariant-loop-at
invariant-loop-at l = record {
  carried : IsCarriedIn label (decimal l.initial.self.number) [] l.self.text.items l.at;
  number : l.self.number ≡ l.initial.self.number;
}

abbrev pub decreases-loop-at : goal.decreases-loop-at
decreases-loop-at l = l.at
