use Rattle.std.proofs.Common.{◌≡◌, fold, take}
use Rattle.std.specs.List.{flat_map}
use Rattle.action_plan.specs.Entries.{actions_of}
use Rattle.filter_state.specs.Actions.{has_serial}
use Rattle.filter_state.specs.Tables.{first_where}
use Rattle.tc_print.specs.ActionWords.{list_words}
use Rattle.tc_print.specs.Texts.{onto}
use Rattle.tc_report.specs.Show.{named}
use Rattle.tc_report.proofs.shown_filters.push_all_bound.Given as goal

abbrev pub invariant-loop-serial : goal.invariant-loop-serial
invariant-loop-serial l =
    l.line.items ≡ fold onto l.fn.line.items (list_words (flat_map (λ serial. named (first_where (has_serial serial) (actions_of l.actions.entries))) (take l.serial-index l.serials)))
