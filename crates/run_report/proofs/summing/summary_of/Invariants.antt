use Rattle.std.proofs.Common.{◌≡◌, ◌+◌, take}
use Rattle.run_report.specs.Counts.{events_in, edits_in, packets_in, passed_in}
use Rattle.run_report.proofs.summing.summary_of.Given as goal

abbrev pub invariant-loop-round : goal.invariant-loop-round
invariant-loop-round l = record {
  edits : l.summary.edits ≡ edits_in (take l.round-index l.rounds);
  events : l.summary.edits + l.summary.refused ≡ events_in (take l.round-index l.rounds);
  passed : l.summary.passed ≡ passed_in (take l.round-index l.rounds);
  packets : l.summary.passed + l.summary.dropped ≡ packets_in (take l.round-index l.rounds);
}
