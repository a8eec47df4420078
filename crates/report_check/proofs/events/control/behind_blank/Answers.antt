use Rattle.std.proofs.Common.{◌∙◌, ◌+◌, subst, sym, arith}
use Rattle.memchr.specs.Find.{IsFirstByte, is_byte}
use Rattle.report_check.proofs.OfEvents.Parts.{behind_at, behind_none, whole_rest}
use Rattle.report_check.proofs.events.control.behind_blank.Goals as goal

pub returns-in-Some : goal.returns-in-Some
returns-in-Some c =
    let text = c.args.text.now in
    let found = subst (IsFirstByte (is_byte 32) text) c.in-Some.is c.memchr.ensures in
    whole_rest text (c.in-Some.place + 1) ∙ behind_at text c.in-Some.place found.0.high found.1 (λ k less here. found.0.before k (omega arith) less here)

pub returns-in-None : goal.returns-in-None
returns-in-None c =
    let text = c.args.text.now in
    let nowhere = subst (IsFirstByte (is_byte 32) text) c.in-None.is c.memchr.ensures in
    sym (behind_none text (λ k less here. nowhere k (omega arith) less here))
