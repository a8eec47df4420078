use Rattle.std.proofs.Common.{◌∙◌, [], ◌++◌, ap, codes}
use Rattle.std.specs.Prelude.{if◌then◌else◌}
use Rattle.std.specs.List.{flat_map}
use Rattle.action_plan.specs.Entries.{actions_of}
use Rattle.tc_print.specs.EditWords.{qdisc_words}
use Rattle.row_laws.specs.OfOrder.Sorted.{sorted}
use Rattle.tc_report.specs.Show.{text_line, action_before, action_shown}
use Rattle.tc_report.proofs.ShownState.{shown_kept}
use Rattle.tc_report.proofs.show.show_text.Goals as goal

pub returns : goal.returns
returns c = λ s spelled.
    shown_kept c.args.lists.now s c.actions.ensures.kept spelled _ _ _ _ _ _ c.new-sheet.ensures.text
    (c.in_ok-push_hooked.ensures.text ∙ ap (λ b. c.new-sheet.result.text.items ++ (if b then text_line (qdisc_words (codes "add")) else [])) c.hooked.ensures)
    (c.in_ok-push_actions.ensures.text ∙ ap (λ es. c.push_hooked.new.sheet.text.items ++ flat_map action_shown (sorted action_before (actions_of es))) (c.entries.ensures.entries ∙ ap (λ r. r.entries) c.actions.ensures.actions))
    c.in_ok-push_tables.ensures.text c.in_ok-push_tables-2.ensures.text c.in_ok-push_end.ensures
