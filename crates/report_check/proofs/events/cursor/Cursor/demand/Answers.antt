use Rattle.std.proofs.Common.{rules, ◌≡◌, false, sym, subst}
use Rattle.report_check.specs.declared.events.cursor.Cursor.{Cursor}
use Rattle.report_check.specs.OfEvents.Cursors.{IsAt, IsRefused}
use Rattle.report_check.proofs.Stuck.{refused_unless}
use Rattle.report_check.proofs.events.cursor.Cursor.demand.Goals as goal

pub returns-clause-stuck : goal.returns-clause-stuck
returns-clause-stuck c = λ is loaded stand at unended must why.
    let no : c.take.result ≡ false = search rules in
    let same = sym (c.take.ensures.stays no) in
    c.refuse.ensures.stuck loaded stand (subst (λ (cursor : Cursor). IsAt loaded c.args.report.now cursor stand) same at) (λ none. unended)
    (subst (λ (cursor : Cursor). IsRefused loaded c.args.report.now cursor stand c.args.reason) same
    (refused_unless loaded c.args.report.now c.args.self.now stand c.args.text.now c.args.reason (c.take.ensures.other no) must why))
