use Rattle.std.proofs.Common.{◌-◌, length, take, drop}
use Rattle.report_check.proofs.OfEvents.Parts.{whole_rest}
use Rattle.report_check.proofs.OfEvents.AtLines.{next_is}
use Rattle.report_trace.proofs.lines.line_at.Goals as goal

pub returns-in-Some-clause-some : goal.returns-in-Some-clause-some
returns-in-Some-clause-some c =
    let bytes = c.args.bytes.now in
    let at = c.args.at in
    next_is bytes (take (length bytes - at) (drop at bytes)) c.in-Some.line.now c.in-Some.field-0-1.now at c.requires (whole_rest bytes at) c.in-Some.ensures.some
