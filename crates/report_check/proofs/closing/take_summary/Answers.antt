use Rattle.std.proofs.Common.{◌≡◌, ◌∙◌, ◌++◌, ◌∷◌, [], true, false, List, ℕ, refl, ap, sym, subst}
use Rattle.walk_texts.specs.Texts.{summary_line}
use Rattle.report_laws.specs.Stands.{closing}
use Rattle.report_check.specs.OfEvents.Cursors.{IsAt}
use Rattle.report_check.proofs.closing.take_summary.Goals as goal

pub returns-clause-taken : goal.returns-clause-taken
returns-clause-taken c = λ is loaded run journal left at.
    let yes : c.take_left.result ≡ true = cc is in
    let text : c.as_slice.result.now ≡ summary_line c.args.summary.now = c.as_slice.ensures.value ∙ c.in_ok-push_summary.ensures ∙ ap (λ (before : List ℕ). before ++ summary_line c.args.summary.now) c.clear.ensures.items in
    c.take_left.ensures.taken yes loaded run journal left (subst (λ (t : List ℕ). IsAt loaded c.args.report.now c.args.cursor.now (closing run journal (t ∷ left))) (sym text) at)

pub returns-clause-stuck : goal.returns-clause-stuck
returns-clause-stuck c = λ is loaded run journal last at.
    let no : c.take_left.result ≡ false = cc is in
    let text : c.as_slice.result.now ≡ summary_line c.args.summary.now = c.as_slice.ensures.value ∙ c.in_ok-push_summary.ensures ∙ ap (λ (before : List ℕ). before ++ summary_line c.args.summary.now) c.clear.ensures.items in
    c.take_left.ensures.stuck no loaded run journal (last ∷ []) refl (subst (λ (t : List ℕ). IsAt loaded c.args.report.now c.args.cursor.now (closing run journal (t ∷ last ∷ []))) (sym text) at)
