use Rattle.std.proofs.Common.{◌∙◌, ap}
use Rattle.report_check.specs.Passed.{cut}
use Rattle.report_check.proofs.OfEvents.Parts.{whole_rest}
use Rattle.report_trace.proofs.Plain.{wrote_plain, up_to_plain}
use Rattle.report_trace.proofs.lines.put_plain.Goals as goal

pub returns-clause-written : goal.returns-clause-written
returns-clause-written g c = λ first whole line lines rest last it.
    let n = c.plain_length-length.result in
    let front = c.plain_length-length.ensures.front it.plain line lines it.each last it.cut_is in
    (ap cut (whole_rest c.args.left.now n) ∙ front.1, wrote_plain first _ _ whole c.args.left.now _ rest _ it front.0 c.in_ok-put.ensures.all)

pub returns-clause-up_to : goal.returns-clause-up_to
returns-clause-up_to g c = λ first whole line lines rest last it.
    let front = c.plain_length-length.ensures.front it.plain line lines it.each last it.cut_is in
    up_to_plain first _ _ whole c.args.left.now _ rest _ it front.0 c.put.ensures.up_to

pub returns-in_err-put-clause-up_to : goal.returns-in_err-put-clause-up_to
returns-in_err-put-clause-up_to g c = λ first whole line lines rest last it.
    let front = c.plain_length-length.ensures.front it.plain line lines it.each last it.cut_is in
    up_to_plain first _ _ whole c.args.left.now _ rest _ it front.0 c.put.ensures.up_to
