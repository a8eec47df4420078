use Rattle.std.proofs.Common.{◌≡◌, ◌≤◌, take}
use Rattle.run_report.specs.Counts.{passed_count}
use Rattle.run_report.proofs.summing.count_passed.Given as goal

abbrev pub invariant-loop-place : goal.invariant-loop-place
invariant-loop-place l = record {
  counted : l.count ≡ passed_count (take l.place l.outcomes);
  within : l.count ≤ l.place;
}
