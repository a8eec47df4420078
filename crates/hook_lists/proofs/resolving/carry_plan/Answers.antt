use Rattle.hook_lists.specs.States.{state_of}
use Rattle.hook_lists.proofs.Holding.{few_references}
use Rattle.hook_lists.proofs.resolving.carry_plan.Goals as goal

pub carry_out-requires-clause-references : goal.carry_out-requires-clause-references
carry_out-requires-clause-references c = few_references (state_of c.args.kept.now) _ c.requires.kept.sound c.made.ensures.short
