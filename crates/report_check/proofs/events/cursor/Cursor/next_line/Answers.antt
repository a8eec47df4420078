use Rattle.std.proofs.Common.{◌-◌, length, take, drop}
use Rattle.report_check.proofs.OfEvents.Parts.{whole_rest}
use Rattle.report_check.proofs.OfEvents.AtLines.{next_is}
use Rattle.report_check.proofs.events.cursor.Cursor.next_line.Goals as goal

pub returns-in-Some-clause-some : goal.returns-in-Some-clause-some
returns-in-Some-clause-some c =
    let report = c.args.report.now in
    let at = c.args.self.at in
    next_is report (take (length report - at) (drop at report)) c.in-Some.line.now c.in-Some.field-0-1.now at c.requires.0 (whole_rest report at) c.in-Some.ensures.some
