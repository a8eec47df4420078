use Rattle.std.proofs.Common.{arith}
use Rattle.action_plan.proofs.Counts.{few_made}
use Rattle.action_plan.proofs.counting.count_made.Goals as goal

pub overflow_add-made : goal.overflow_add-made
overflow_add-made c = let few = few_made c.args.parts.now in omega (arith, few)

pub returns-clause-few : goal.returns-clause-few
returns-clause-few c = let few = few_made c.args.parts.now in omega (arith, few)
