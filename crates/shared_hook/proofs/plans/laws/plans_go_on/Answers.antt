use Rattle.shared_hook.proofs.OfPlans.Staying.{plan_stays}
use Rattle.shared_hook.proofs.plans.laws.plans_go_on.Goals as goal

pub returns : goal.returns
returns c = λ old new y plan was is journal masks it. plan_stays old new was is journal masks y plan it
