use Rattle.report_laws.proofs.OfNextLines.NextLines.{takes_next, takes_no_other}
use Rattle.report_laws.proofs.next_lines.events.next_events.Goals as goal

pub returns-clause-takes : goal.returns-clause-takes
returns-clause-takes c = takes_next

pub returns-clause-no_other : goal.returns-clause-no_other
returns-clause-no_other c = takes_no_other
