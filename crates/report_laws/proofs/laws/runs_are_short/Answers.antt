use Rattle.report_laws.proofs.ShortRuns.{events_few, packets_few}
use Rattle.report_laws.proofs.laws.runs_are_short.Goals as goal

pub returns-clause-events : goal.returns-clause-events
returns-clause-events c = events_few

pub returns-clause-packets : goal.returns-clause-packets
returns-clause-packets c = packets_few
