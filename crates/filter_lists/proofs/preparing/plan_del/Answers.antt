use Rattle.filter_state.specs.Steps.{filter_del}
use Rattle.hook_lists.specs.States.{state_of}
use Rattle.filter_lists.proofs.Families.{removal_refused}
use Rattle.filter_lists.proofs.preparing.plan_del.Goals as goal

pub returns-in-Err : goal.returns-in-Err
returns-in-Err c =
    removal_refused c.args.kept.now c.in-Err.refusal (filter_del (state_of c.args.kept.now) c.args.hook c.args.protocol c.args.chain c.args.pref c.args.handle) c.in-Err.ensures
