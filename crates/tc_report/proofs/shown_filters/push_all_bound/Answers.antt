use Rattle.action_plan.specs.Entries.{actions_of}
use Rattle.filter_state.specs.Actions.{has_serial}
use Rattle.filter_state.specs.Tables.{first_where}
use Rattle.tc_report.specs.Show.{named}
use Rattle.tc_report.proofs.Bound.{words_more}
use Rattle.tc_report.proofs.shown_filters.push_all_bound.Goals as goal

pub loop-serial-preserved : goal.loop-serial-preserved
loop-serial-preserved c =
    words_more (λ serial. named (first_where (has_serial serial) (actions_of c.args.actions.now.entries))) _ _ _ c.args.serials.now c.loop-serial.serial-index _
    c.loop-serial-test.true c.loop-serial.invariant c.in_ok-push_bound.ensures
