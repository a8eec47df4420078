use Rattle.report_laws.proofs.OfNextLines.HeadOnce.{same_walk, same_visits}
use Rattle.report_laws.proofs.next_lines.walks.head_once.Goals as goal

pub returns-clause-end : goal.returns-clause-end
returns-clause-end c = same_walk

pub returns-clause-visits : goal.returns-clause-visits
returns-clause-visits c = same_visits
