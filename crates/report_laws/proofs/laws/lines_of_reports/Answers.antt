use Rattle.report_laws.proofs.ReportLines.{report_is_lines}
use Rattle.report_laws.proofs.laws.lines_of_reports.Goals as goal

pub returns : goal.returns
returns c = report_is_lines
