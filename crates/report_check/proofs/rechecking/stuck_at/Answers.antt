use Rattle.report_check.proofs.LastLines.{first_bad, reason_at}
use Rattle.report_check.proofs.rechecking.stuck_at.Goals as goal

pub returns-clause-check : goal.returns-clause-check
returns-clause-check c = λ loaded is stuck. (first_bad loaded c.args.report.now c.args.cursor is stuck, reason_at loaded c.args.report.now c.args.cursor stuck)
