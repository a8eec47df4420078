use Rattle.std.proofs.Common.{◌≡◌, ◌+◌, ◌-◌, ◌≤◌, drop}
use Rattle.report_check.specs.Reasons.{parting}
use Rattle.report_check.proofs.reading.parting.parting.Given as goal

abbrev pub invariant-loop-place : goal.invariant-loop-place
invariant-loop-place l = record {
  few : l.word ≤ l.place;
  so_far : parting l.text l.other ≡ l.word + parting (drop l.place l.text) (drop l.place l.other);
}

abbrev pub decreases-loop-place : goal.decreases-loop-place
decreases-loop-place l = l.shared - l.place
