use Rattle.report_check.proofs.Stuck.{stuck_for}
use Rattle.report_check.proofs.events.cursor.Cursor.refuse.Goals as goal

pub returns-clause-stuck : goal.returns-clause-stuck
returns-clause-stuck c = λ loaded stand at unended refused.
    stuck_for loaded c.args.report.now c.args.self.now stand c.args.reason c.reason_there-self.result c.requires c.reason_there-self.ensures.cut c.reason_there-self.ensures.told at unended refused
