use Rattle.report_laws.proofs.OfNextLines.NextPackets.{is_walked, walks_at}
use Rattle.report_laws.proofs.next_lines.walks.walks_at_points.Goals as goal

pub returns-clause-is : goal.returns-clause-is
returns-clause-is c = is_walked

pub returns-clause-only : goal.returns-clause-only
returns-clause-only c = walks_at
