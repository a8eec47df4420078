use Rattle.std.proofs.Common.{◌≡◌, ◌∙◌, false, List, ℕ, sym, subst}
use Rattle.report_check.specs.OfEvents.Cursors.{MustBe}
use Rattle.report_check.proofs.lines.take_numbered.Goals as goal

pub returns-clause-stuck : goal.returns-clause-stuck
returns-clause-stuck c = λ is loaded stand at unended must why.
    let no : c.demand.result ≡ false = cc is in
    let text = c.as_slice.ensures.value ∙ c.in_ok-put_numbered.ensures in
    c.demand.ensures.stuck no loaded stand at unended (subst (λ (t : List ℕ). MustBe loaded c.args.report.now c.args.cursor.now stand t) (sym text) must) (λ line next other. why line)
