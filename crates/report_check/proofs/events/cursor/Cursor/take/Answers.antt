use Rattle.std.proofs.Common.{rules, ◌≡◌, ℕ, List, subst, sym}
use Rattle.report_laws.specs.Stands.{Takes}
use Rattle.report_check.specs.declared.events.cursor.Cursor.{Cursor}
use Rattle.report_check.specs.OfEvents.Cursors.{IsAt}
use Rattle.report_check.proofs.OfEvents.AtLines.{at_next}
use Rattle.report_check.proofs.events.cursor.Cursor.take.Goals as goal

pub returns-in-Some-clause-taken : goal.returns-in-Some-clause-taken
returns-in-Some-clause-taken c = λ yes loaded stand next at takes.
    let same : c.in-Some.line.now ≡ c.args.text.now = search rules in
    subst (λ (cursor : Cursor). IsAt loaded c.args.report.now cursor next) (sym c.pass.ensures)
    (at_next c.args.report.now c.in-Some.line.now c.args.self.now c.in-Some.ensures.some loaded stand next at (subst (λ (t : List ℕ). Takes loaded stand t next) (sym same) takes))
