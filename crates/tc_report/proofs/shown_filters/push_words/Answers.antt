use Rattle.std.proofs.Common.{◌∙◌, Some, codes, fold, ap}
use Rattle.std.specs.List.{flat_map}
use Rattle.flow_fields.specs.declared.key.Key.{Key}
use Rattle.action_plan.specs.Entries.{actions_of}
use Rattle.filter_state.specs.Actions.{has_serial}
use Rattle.filter_state.specs.Tables.{first_where}
use Rattle.tc_print.specs.ActionWords.{list_words}
use Rattle.tc_print.specs.FieldWords.{fields_words}
use Rattle.tc_print.specs.EditWords.{hook_words, option_words}
use Rattle.tc_print.specs.Texts.{onto}
use Rattle.tc_report.specs.Show.{named}
use Rattle.tc_report.proofs.Lines.{filter_grown}
use Rattle.tc_report.proofs.shown_filters.push_words.Goals as goal

pub returns : goal.returns
returns c =
    filter_grown c.args.line.now.items _ _ _ _ _ (hook_words (codes "add") c.args.hook)
    (option_words (Some c.args.table.now.protocol) (Some c.args.table.now.pref) c.args.table.now.chain (Some c.args.filter.now.handle)) (codes "flower")
    (fields_words c.args.filter.now.key.words c.args.mask.now.mask.words)
    (list_words (flat_map (λ serial. named (first_where (has_serial serial) (actions_of c.args.actions.now.entries))) c.args.filter.now.actions))
    c.in_ok-push_hook.ensures c.in_ok-push_options.ensures c.in_ok-push_word.ensures
    (c.in_ok-push_fields.ensures ∙ ap (λ (mask : Key 14). fold onto c.push_word.new.out.items (fields_words c.args.filter.now.key.words mask.words)) c.mask.ensures)
    (c.in_ok-push_all_bound.ensures
    ∙ ap (λ serials. fold onto c.push_fields.new.out.items (list_words (flat_map (λ serial. named (first_where (has_serial serial) (actions_of c.args.actions.now.entries))) serials))) c.as_slice.ensures)
