use Rattle.report_trace.proofs.Visited.{lawful_visits}
use Rattle.report_trace.proofs.laws.steps_are_lawful_visits.Goals as goal

pub returns : goal.returns
returns c = lawful_visits
