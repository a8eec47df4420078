use Rattle.std.proofs.Common.{◌≡◌, ◌≤◌, ◌-◌, length}
use Rattle.round_terms.specs.Places.{left_from}
use Rattle.round_terms.proofs.commands.next_command.Given as goal

-- the same commands are left
abbrev pub invariant-loop-cut : goal.invariant-loop-cut
invariant-loop-cut l = record {
  within : l.at ≤ length l.bytes;
  counted : l.line ≤ l.at;
  same : left_from l.bytes l.from l.before ≡ left_from l.bytes l.at l.line;
}

abbrev pub decreases-loop-cut : goal.decreases-loop-cut
decreases-loop-cut l = length l.bytes - l.at
