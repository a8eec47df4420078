use Rattle.tc_print.proofs.Grown.{actions_grow}
use Rattle.tc_print.proofs.actions.push_actions.Goals as goal

pub loop-action-preserved : goal.loop-action-preserved
loop-action-preserved c =
    actions_grow _ _ _ c.args.actions.now c.loop-action.action-index _ c.loop-action-test.true c.loop-action.invariant c.in_ok-push_action.ensures
