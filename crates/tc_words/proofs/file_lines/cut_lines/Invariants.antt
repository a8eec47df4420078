use Rattle.std.proofs.Common.{◌≡◌, ◌≤◌, ◌-◌, ◌++◌, length, drop}
use Rattle.std.specs.Prelude.{map}
use Rattle.tc_words.specs.Lines.{lines_of}
use Rattle.tc_words.proofs.file_lines.cut_lines.Given as goal

abbrev pub decreases-loop-line : goal.decreases-loop-line
decreases-loop-line l = length l.bytes - l.at

abbrev pub invariant-loop-line : goal.invariant-loop-line
invariant-loop-line l = record {
  within : l.at ≤ length l.bytes;
  so_far : map (λ line. line.now) l.lines.items ++ lines_of (drop l.at l.bytes) ≡ lines_of l.bytes;
}
