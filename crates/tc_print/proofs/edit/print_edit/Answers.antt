use Rattle.std.proofs.Common.{◌≡◌, ◌∙◌, ℕ, List, sym, ap, subst}
use Rattle.std.specs.Prelude.{fold}
use Rattle.tc_words.specs.Lines.{words_of}
use Rattle.tc_batch.specs.Grammar.{Gives}
use Rattle.tc_print.specs.EditWords.{edit_words, printed}
use Rattle.tc_print.specs.Texts.{onto}
use Rattle.tc_batch.proofs.Runs.{one_edit}
use Rattle.tc_print.proofs.CleanEdits.{edit_clean, grown_join, printed_gives}
use Rattle.tc_print.proofs.edit.print_edit.Goals as goal

pub returns-clause-text : goal.returns-clause-text
returns-clause-text c =
    c.in_ok-push_edit.ensures ∙ ap (λ (t : List ℕ). fold onto t (edit_words c.args.edit.now)) c.new-out.ensures.items
    ∙ grown_join (edit_words c.args.edit.now) (edit_clean c.args.edit.now c.requires)

pub returns-clause-line : goal.returns-clause-line
returns-clause-line c =
    let text : c.push_edit.new.out.items ≡ printed c.args.edit.now =
    c.in_ok-push_edit.ensures ∙ ap (λ (t : List ℕ). fold onto t (edit_words c.args.edit.now)) c.new-out.ensures.items
    ∙ grown_join (edit_words c.args.edit.now) (edit_clean c.args.edit.now c.requires) in
    subst (λ (t : List ℕ). Gives (words_of t) c.args.edit.now) (sym text) (printed_gives c.args.edit.now c.requires)

pub returns-clause-only : goal.returns-clause-only
returns-clause-only c = λ other gives. one_edit (words_of c.push_edit.new.out.items) other c.args.edit.now gives (returns-clause-line c)
