use Rattle.report_laws.proofs.OfWholePaths.Exact.{bad_line, cut_short, whole_report}
use Rattle.report_laws.proofs.whole_paths.laws.the_first_bad_line.Goals as goal

pub returns-clause-lawful : goal.returns-clause-lawful
returns-clause-lawful c = whole_report

pub returns-clause-bad : goal.returns-clause-bad
returns-clause-bad c = bad_line

pub returns-clause-short : goal.returns-clause-short
returns-clause-short c = cut_short
