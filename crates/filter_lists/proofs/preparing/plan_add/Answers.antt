use Rattle.filter_state.specs.Steps.{filter_add}
use Rattle.hook_lists.specs.States.{state_of}
use Rattle.filter_lists.proofs.Families.{addition_refused}
use Rattle.filter_lists.proofs.preparing.plan_add.Goals as goal

pub returns-in-Err-clause-planned : goal.returns-in-Err-clause-planned
returns-in-Err-clause-planned c =
    addition_refused c.prepare_addition.new.kept c.in-Err.refusal (filter_add (state_of c.args.kept.now) c.args.line.now) c.in-Err.ensures.planned
