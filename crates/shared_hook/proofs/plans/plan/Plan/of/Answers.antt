use Rattle.shared_hook.proofs.OfPlans.Needing.{deleted_live}
use Rattle.shared_hook.proofs.plans.plan.Plan.of.Goals as goal

pub returns-in-ActionDel-clause-plan : goal.returns-in-ActionDel-clause-plan
returns-in-ActionDel-clause-plan c = let a = c.requires.accepted in record {
  kind = c.in-ActionDel.kind;
  index = c.in-ActionDel.index;
  is = c.in-ActionDel.is;
  live = deleted_live _ _ _ _ _ _ _ c.in-ActionDel.is a.2;
}
