use Rattle.filter_state.specs.Steps.{replace_at}
use Rattle.hook_lists.specs.States.{state_of}
use Rattle.filter_lists.proofs.Families.{replacement_refused}
use Rattle.filter_lists.proofs.preparing.plan_replacement.Goals as goal

pub returns-in-Err-clause-planned : goal.returns-in-Err-clause-planned
returns-in-Err-clause-planned c = λ row is.
    replacement_refused c.prepare_replacement.new.kept c.in-Err.refusal (replace_at (state_of c.args.kept.now) c.args.line.now row) (c.in-Err.ensures.planned row is)
